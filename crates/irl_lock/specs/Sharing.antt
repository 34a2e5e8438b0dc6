-- An open store that passes share, and what each of them did with it.
use Rattle.std.specs.Prelude.{◌≡◌, ℕ, ◌+◌, ◌^◌, ◌<◌, ◌≤◌, List, [], ◌∷◌, ◌++◌, length, None, Some, Result, Ok, Err, IfOk, IfErr}
use Rattle.std.specs.List.{AllByRecursion, flat_map}
use Rattle.std.specs.List.Sorted.{IsPermutation}
use Rattle.irl_base.specs.declared.fault.Fault.{Fault}
use Rattle.irl_offer.specs.Buckets.{bucket_of}
use Rattle.irl_offer.specs.Offering.{Entered, IsTakenBy, fault_after}
use Rattle.irl_offer.specs.Tuple.{Tuple}
use Rattle.irl_offer.specs.declared.receipt.Receipt.{Receipt}
use Rattle.irl_key.specs.Links.{IsCanonicalText}
use Rattle.irl_disk.specs.declared.store.Store.{Ghosts}
use Rattle.irl_array.specs.Waiting.{Waiting}
use Rattle.irl_schedule.specs.Feeding.{IsArrayOf}
use Rattle.irl_schedule.specs.Schedule.{none_more}
use Rattle.irl_yard.specs.declared.yard.Yard.{Yard}
use Rattle.irl_desk.specs.Closing.{Closes as DeskCloses}
use Rattle.irl_desk.specs.Serving.{Enters, Serving, entered_by}
use Rattle.irl_lock.specs.Books.{IsPartOf, buckets_of, entries_of, fresh_of, known_entries, serving_now, shares_of}
use Rattle.irl_lock.specs.Plays.{end_of, pushed, with_entry, with_known}
use Rattle.irl_lock.specs.Seats.{IsOn}
use Rattle.irl_lock.specs.declared.held.Bin.{Bin}
use Rattle.irl_lock.specs.declared.held.Held.TheVariants.{InBin}
use Rattle.irl_lock.specs.declared.held.Stand.{Stand}
use Rattle.irl_lock.specs.declared.pass.Pass.{Pass}
use Rattle.irl_lock.specs.declared.shared.Shared.{Shared}
use Rattle.irl_lock.specs.declared.view.Known.{Known}
use Rattle.irl_lock.specs.declared.view.Share.{Share}

module _ {S : Type 0} {tells : Ghosts S} where
  -- the store as it was opened
  abbrev pub opening_of : Shared S tells → Yard S tells
  opening_of shared = shared.table.shared.key.value

  -- what a pass was given receipts for, each with its offer, and its part of the right to close
  abbrev pub entries_in : Pass S tells → List Entered
  entries_in pass = entries_of pass.token.me.0.known.mine

  abbrev pub parts_in : Pass S tells → ℕ
  parts_in pass = pass.token.me.0.known.parts

  abbrev pub parts_in_all : List (Pass S tells) → ℕ
  parts_in_all [] = 0
  parts_in_all (pass ∷ more) = parts_in pass + parts_in_all more

  -- the pass is one of this store's
  pub record IsOf (shared : Shared S tells) (pass : Pass S tells) : Type 0 where
    pub on : IsOn shared.table.shared.table_id (opening_of shared) pass.token.table_id pass.token.me.0
    pub number : pass.number + 1 < 2 ^ 64

  -- it holds no turn
  pub record IsFree (pass : Pass S tells) : Type 0 where
    pub slots : pass.token.me.1 ≡ []
    pub turns : pass.token.me.0.turns ≡ []
    pub last : pass.last ≡ pass.token.me.0.known.mine.last
    pub joined : pass.token.me.0.known.joined ≡ []

  -- It has done nothing yet.
  pub record IsFreshPass (shared : Shared S tells) (pass : Pass S tells) : Type 0 where
    pub own : IsOf shared pass
    pub free : IsFree pass
    pub entries : entries_in pass ≡ []
    pub last : pass.last ≡ None

  -- ---- a push
  abbrev pub bucket_in : Shared S tells → Tuple → ℕ
  bucket_in shared offer = bucket_of (buckets_of (opening_of shared)) offer.key

  -- The pass holds the turn of the offer's bucket alone, and this bin stands behind it. A number is left, and the store
  -- takes the offer.
  pub record MayPush (shared : Shared S tells) (pass : Pass S tells) (bin : Bin) (offer : Tuple) : Type 0 where
    pub own : IsOf shared pass
    pub turn : pass.token.me.0.turns ≡ (bucket_in shared offer, InBin bin) ∷ []
    pub array : IsArrayOf (opening_of shared).parts.urls.settings (bucket_in shared offer) bin.array
    pub number : end_of bin < 2 ^ 64
    pub taken : IsTakenBy IsCanonicalText (opening_of shared).parts.urls.settings.kind offer

  -- It is put behind those that wait, and gets the number behind them, or it is handed back and nothing changes.
  pub record Pushes (result : Result Receipt Tuple) (shared : Shared S tells) (old new : Pass S tells) (was now : Bin)
      (offer : Tuple) : Type 0 where
    pub own : IsOf shared new
    pub others : (new.number ≡ old.number) × (new.last ≡ old.last)
    pub ok : IfOk result (λ receipt. (receipt ≡ record { bucket = bucket_in shared offer; number = end_of was })
        × (now ≡ pushed was offer)
        × (new.token.me ≡ (
          with_known ((bucket_in shared offer, InBin now) ∷ [])
              (with_entry (bucket_in shared offer) (end_of was) offer old.token.me.0.known) old.token.me.0,
          old.token.me.1,
        )))
    -- it comes back exactly where the array is full
    pub err : IfErr result (λ back. (back ≡ offer) × (now ≡ was) × (new.token.me ≡ old.token.me)
        × ((opening_of shared).parts.urls.settings.array ≤ length was.array.items))

  -- The same, where a number may be missing.
  pub record MayPut (shared : Shared S tells) (pass : Pass S tells) (bin : Bin) (offer : Tuple) : Type 0 where
    pub own : IsOf shared pass
    pub turn : pass.token.me.0.turns ≡ (bucket_in shared offer, InBin bin) ∷ []
    pub array : IsArrayOf (opening_of shared).parts.urls.settings (bucket_in shared offer) bin.array
    pub taken : IsTakenBy IsCanonicalText (opening_of shared).parts.urls.settings.kind offer

  -- it comes back where the array is full or no number is left
  pub record Puts (result : Result Receipt Tuple) (shared : Shared S tells) (old new : Pass S tells) (was now : Bin)
      (offer : Tuple) : Type 0 where
    pub own : IsOf shared new
    pub others : (new.number ≡ old.number) × (new.last ≡ old.last)
    pub ok : IfOk result (λ receipt. (receipt ≡ record { bucket = bucket_in shared offer; number = end_of was })
        × (now ≡ pushed was offer)
        × (new.token.me ≡ (
          with_known ((bucket_in shared offer, InBin now) ∷ [])
              (with_entry (bucket_in shared offer) (end_of was) offer old.token.me.0.known) old.token.me.0,
          old.token.me.1,
        )))
    pub err : IfErr result (λ back. (back ≡ offer) × (now ≡ was) × (new.token.me ≡ old.token.me)
        × (length was.array.items < (opening_of shared).parts.urls.settings.array → 2 ^ 64 ≤ end_of was))

  -- ---- an offer
  pub record OffersOne (result : Result Receipt (Fault × Tuple)) (offer : Tuple) (old new : Pass S tells) : Type 0 where
    pub entries : entries_in new ≡ entries_in old ++ entered_by result offer
    pub last : new.last ≡ fault_after result old.last
    pub back : IfErr result (λ refusal. refusal.1 ≡ offer)
    pub parts : parts_in new ≡ parts_in old

  -- ---- what comes back
  abbrev pub mine_of : Pass S tells → Share
  mine_of pass = pass.token.me.0.known.mine

  -- What a table leaves whose one seat has all parts: the store and its arrays, as what was handed in made them.
  pub record Leaves (opening : Yard S tells) (known : Known) (arrays : List Waiting) (stand : Stand S tells) : Type 0
    where
      pub news : List Entered
      pub enters : Enters tells.told none_more news (fresh_of opening) (serving_now stand arrays news)
      pub whole : IsPermutation news (known_entries known)
      pub in_order : AllByRecursion (λ share. IsPartOf (entries_of share) news) (shares_of known)
      pub stops : AllByRecursion (λ share. (fault : Fault) → share.last ≡ Some fault → stand.last ≡ Some fault)
          (shares_of known)

  abbrev pub answer_of : Result (Yard S tells) (Fault × Yard S tells) → Result (Unit {0}) Fault
  answer_of (Ok yard) = Ok tt
  answer_of (Err refusal) = Err refusal.0

  abbrev pub yard_of : Result (Yard S tells) (Fault × Yard S tells) → Yard S tells
  yard_of (Ok yard) = yard
  yard_of (Err refusal) = refusal.1

  -- The offers of all passes were handed in, in an order in which each pass has its own, and made of the store as it
  -- was opened what stands behind the turns then: as of one desk to which they were handed in so. The last fault of
  -- each pass is the one by which the store stopped. Closing it is closing that desk.
  pub record Closes (result : Result (Yard S tells) (Fault × Yard S tells)) (opening : Yard S tells)
      (passes : List (Pass S tells)) : Type 0 where
    pub news : List Entered
    pub whole : IsPermutation news (flat_map entries_in passes)
    pub in_order : AllByRecursion (λ pass. IsPartOf (entries_in pass) news) passes
    pub mid : Serving S
    pub enters : Enters tells.told none_more news (fresh_of opening) mid
    pub stops : AllByRecursion (λ pass. (fault : Fault) → pass.last ≡ Some fault → mid.last ≡ Some fault) passes
    pub closing : DeskCloses tells.told (answer_of result) mid (yard_of result).store (yard_of result).parts
