-- A pass of an open store, as a part of a crawl.
use Rattle.std.proofs.Common.{◌≡◌, ◌∙◌, ℕ, true, Option, None, Some, Result, Ok, Err, IsErrOf, refl, sym, ap, subst}
use Rattle.std.specs.Prelude.{is_some, ⊤}
use Rattle.irl_base.specs.declared.fault.Fault.{Fault}
use Rattle.irl_base.specs.declared.fault.Fault.TheVariants.{Failed}
use Rattle.irl_bay.specs.Drum.{Drum, IsDrum}
use Rattle.irl_disk.specs.Disk.{ChangesFile, Files, TellsBy}
use Rattle.irl_disk.specs.Images.{IsConsistent, Told}
use Rattle.irl_events.specs.State.{State}
use Rattle.irl_head.specs.StoreFiles.{crawl_file}
use Rattle.irl_offer.specs.declared.settings.Kind.TheVariants.{Crawl as CrawlKind}
use Rattle.irl_offer.specs.declared.settings.Settings.{Settings}
use Rattle.irl_schedule.proofs.Outcomes.{ok_gives}
use Rattle.irl_yard.specs.declared.parts.Parts.{Parts}
use Rattle.irl_yard.specs.declared.parts.Rest.{Rest}
use Rattle.irl_yard.specs.Holding.{HoldsState, IsOpenRest, StaysSound}
use Rattle.irl_yard.specs.Leading.{IsEither, LeadsOrStays, LeadsTo}
use Rattle.irl_yard.specs.Passing.{PassesState, suffixes_in, with_pass}
use Rattle.irl_yard.specs.Sending.{HasBegun}
use Rattle.irl_yard.proofs.Begun.{ledger_in, pass_begun, pass_sent}
use Rattle.irl_yard.proofs.CallsLead.{pass_leads}
use Rattle.irl_yard.proofs.MayAsk.{begun_known}
use Rattle.irl_yard.proofs.SentWhole.{crawl_in}
use Rattle.irl_crawl.proofs.Leading.{leads_more_failed, leads_wide}
use Rattle.irl_crawl.proofs.OtherFiles.{others_log}
use Rattle.irl_crawl.specs.Leading.{IsSent, KeepsBegun, Leads, NeedsNoGround}
use Rattle.irl_crawl.specs.Running.{Passes}

told_on : (step : Files → Files → Type 0) (old new : Option Files) (files : Files) → TellsBy step old new → old ≡ Some files → (later : Files) × (new ≡ Some later)
told_on step None new files tells is = let no : ⊥ = cc in absurd no
told_on step (Some old) new files tells is = (tells.0, tells.1)

module _ {S : Type 0} (tells : S → Told) (result : Result ℕ Fault) (was now : Parts) (before after : S) (law : IsConsistent (tells after)) (passes : PassesState tells result was now before after)
    (goes_on : StaysSound (IsErrOf result Failed) now) where
  abbrev settings : Settings
  settings = was.urls.settings

  abbrev Either : State → State → Type 0
  Either x y = IsEither x (with_pass settings x) y

  made : (x : State) (answer : Result ℕ Fault) → NeedsNoGround answer → (IsErrOf answer Failed → ⊥)
      → LeadsOrStays answer x (with_pass settings x) now (tells before) (tells after)
      → (y : State) × Passes answer settings x y × LeadsTo x y now (tells before) (tells after)
  made x (Ok n) ground still leads = (with_pass settings x, record { done = refl; kept = tt; ground = ground }, leads.done)
  made x (Err fault) ground still leads = (x, record { done = tt; kept = refl; ground = ground }, leads.kept still)

  drum : IsDrum was.urls
  drum = subst IsDrum passes.urls goes_on.drum

  leads_by : (files : Files) → (tells before).files ≡ Some files → (x : State) → HoldsState (tells before).images was x → LeadsOrStays result x (with_pass settings x) now (tells before) (tells after)
  leads_by files told x held = pass_leads tells result was now x before after files drum law told held passes

  pub pass_part : Leads (IsErrOf result Failed) Either (Passes result settings) was now (tells before) (tells after)
  pass_part = record {
    leads = λ still files told x held.
        made x result (record { full = passes.full; whole = λ f at is. passes.whole f at is files told x held }) still (leads_by files told x held);
    fails = λ failure files told x held. (leads_by files told x held).failed failure;
    told = λ files told. told_on _ (tells before).files (tells after).files files passes.others.told told;
    settings = ap (λ (d : Drum). d.settings) passes.urls;
    goes_on = goes_on;
    cause = passes.others.cause;
    others = others_log was now (tells before) (tells after) (ChangesFile crawl_file (λ _ _. ⊤)) law passes.urls (λ x y changes. changes.others) passes.others.told passes.others.stops;
  }

  -- an answer that gives no count
  pub pass_ok : (n count : ℕ) → result ≡ Ok n → Leads (IsErrOf {T = ℕ} {E = Fault} (Ok count) Failed) Either (Passes {A = ℕ} (Ok count) settings) was now (tells before) (tells after)
  pass_ok n count is =
      let done : Result ℕ Fault = Ok count in
      leads_more_failed (IsErrOf result Failed) (IsErrOf done Failed) Either (Passes done settings) was now (tells before) (tells after)
      (λ failed. let both = sym is ∙ failed in let no : ⊥ = cc in absurd no) (λ failed. let no : ⊥ = cc in absurd no)
      (leads_wide (IsErrOf result Failed) Either (Passes result settings) Either (Passes done settings) was now (tells before) (tells after) pass_part (λ x y held front may. may)
      (λ x y held later front did. record {
        done = ok_gives result n did.done is;
        kept = tt;
        ground = record { full = λ m full. let no : ⊥ = cc in absurd no; whole = λ f at damaged. let no : ⊥ = cc in absurd no };
      }))

  -- what is kept in memory
  pub pass_keeps : (told later : Option Files) → IsOpenRest was.urls was.rest told → IsOpenRest now.urls now.rest later → HasBegun was.rest → IsSent was → KeepsBegun was now × IsSent now
  pass_keeps told later opened open_now begun sent =
      let first = crawl_in was.rest begun in
      let kind : now.urls.settings.kind ≡ CrawlKind = ap (λ (d : Drum). d.settings.kind) passes.urls ∙ (opened.1 first.0 first.1).0 in (
        record { begun = pass_begun tells result was now before after passes (ledger_in now.urls now.rest later open_now kind) begun; suffixes = passes.suffixes },
        pass_sent tells result was now before after passes first sent,
      )

-- a crawl that has begun has suffixes
pub has_suffixes : (urls : Drum) (rest : Rest) (told : Option Files) → IsOpenRest urls rest told → HasBegun rest → is_some (suffixes_in rest) ≡ true
has_suffixes urls rest told opened begun = (begun_known urls rest told opened (is_some (suffixes_in rest)) refl).1 begun
