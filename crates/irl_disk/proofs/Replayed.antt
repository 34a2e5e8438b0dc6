-- The files that a replay of the log shows.
use Rattle.std.specs.Prelude.{◌≡◌, ℕ, ◌+◌, ◌%◌, ◌<◌, nat_eq, Bool, true, false, ◌&&◌, if◌then◌else◌, List, [], ◌∷◌, ◌++◌, length, take, get_or}
use Rattle.std.proofs.Common.{refl, sym, ap, ◌∙◌, subst, arith, length-take}
use Rattle.std.proofs.lemmas.List.{get_or-take, take_more}
use Rattle.irl_disk.specs.declared.calls.LoggedCall.{LoggedCall}
use Rattle.irl_disk.specs.declared.calls.Part.{Part}
use Rattle.irl_disk.specs.declared.calls.Part.TheVariants.{Old, New, Torn}
use Rattle.irl_disk.specs.Disk.{Files}
use Rattle.irl_disk.specs.Model.{FileState, at_rest, IsFileImage}
use Rattle.irl_disk.specs.ModelLaws.{IsSound, torn_is_image, synced_is_image}
use Rattle.irl_disk.specs.Calls.{History, files_among, after_call, after_entry, after_entries, states_at, read_after, IsPart, ShowsNext}
use Rattle.irl_disk.proofs.Steps.{after_more, now_done, now_not_done}

untorn : (odd : Bool) (x : ℕ) → x ≡ (if odd && false then 165 else x)
untorn true x = refl
untorn false x = refl

-- a file of which all is synced is each of its parts
pub part_at_rest : (part : Part) (bytes shown : List ℕ) → shown ≡ bytes → IsPart part (at_rest bytes) shown
part_at_rest Old bytes shown e = e
part_at_rest New bytes shown e = e
part_at_rest Torn bytes shown e = record { long = ap (λ (xs : List ℕ). length xs) e; each = λ i l. ap (λ (xs : List ℕ). get_or xs i 0) e ∙ untorn (nat_eq (i % 2) 1) (get_or bytes i 0) }

-- a part of a file is what a stop may leave
pub part_is_image : (part : Part) (s : FileState) (bytes : List ℕ) → IsSound s → IsPart part s bytes → IsFileImage s bytes
part_is_image Old s bytes sound part = rw part (synced_is_image s sound)
part_is_image New s bytes sound part = rw part sound.now
part_is_image Torn s bytes sound part = torn_is_image s bytes sound part

-- an item of the first entries is one of all
pub item_within : (xs ys : List LoggedCall) (n i : ℕ) → xs ≡ ys → i < length (take n xs) → i < length ys
item_within xs ys n i same l = omega (arith, length-take n xs, ap (λ (es : List LoggedCall). length es) same)

pub item_is : (xs ys : List LoggedCall) (n i : ℕ) (entry : LoggedCall) → xs ≡ ys → i < length (take n xs) → entry ≡ get_or (take n xs) i entry → entry ≡ get_or ys i entry
item_is xs ys n i entry same l is = is ∙ get_or-take n xs i entry (omega (arith, length-take n xs)) ∙ ap (λ (es : List LoggedCall). get_or es i entry) same

-- one entry more
module _ (h : History) (i : ℕ) (entry : LoggedCall) (within : i < length h.entries) (is : entry ≡ get_or h.entries i entry) where
  pub states_more : (f : ℕ) → states_at (i + 1) h f ≡ after_entry entry f (states_at i h f)
  states_more f =
      let start = at_rest (files_among h.first f) in
      ap (λ (es : List LoggedCall). after_entries es f start) (take_more h.entries i entry within ∙ ap (λ (e : LoggedCall). take i h.entries ++ e ∷ []) (sym is))
      ∙ after_more (take i h.entries) entry f start

  pub shown_more : (part : Part) (now old new : Files) → ShowsNext part entry now old new → ((f : ℕ) → IsPart part (states_at i h f) (old f)) → ((f : ℕ) → now f ≡ (states_at i h f).now)
      → (f : ℕ) → IsPart part (states_at (i + 1) h f) (new f)
  shown_more part now old new shows was is_now f = subst (λ (s : FileState). IsPart part s (new f)) (sym (states_more f)) (shows f (states_at i h f) (is_now f) (was f))

  pub now_more : (is_done : Bool) → entry.is_done ≡ is_done → (f : ℕ) → (states_at (i + 1) h f).now ≡ (after_call entry.call is_done f (states_at i h f)).now
  now_more is_done e f = ap (λ (s : FileState). s.now) (states_more f) ∙ rw e refl

  pub done_more : entry.is_done ≡ true → (old new : Files) → ((f : ℕ) → old f ≡ (states_at i h f).now) → ((f : ℕ) → new f ≡ read_after entry.call f (old f)) → (f : ℕ)
      → new f ≡ (states_at (i + 1) h f).now
  done_more e old new was after f = after f ∙ ap (λ (xs : List ℕ). read_after entry.call f xs) (was f) ∙ sym (now_more true e f ∙ now_done entry.call f (states_at i h f))

  pub failed_more : entry.is_done ≡ false → (old : Files) → ((f : ℕ) → old f ≡ (states_at i h f).now) → (f : ℕ) → old f ≡ (states_at (i + 1) h f).now
  failed_more e old was f = was f ∙ sym (now_more false e f ∙ now_not_done entry.call f (states_at i h f))
