-- What calls that made one desk of another entered.
use Rattle.std.proofs.Common.{◌≡◌, ◌∙◌, List, [], ◌∷◌, ◌++◌, append-nil, Option, None, Some, refl, sym, ap, subst}
use Rattle.std.proofs.lemmas.List.{append_cancel_left}
use Rattle.irl_base.specs.declared.fault.Fault.{Fault}
use Rattle.irl_offer.specs.Offering.{Entered}
use Rattle.irl_disk.specs.Images.{Told, IsConsistent}
use Rattle.irl_desk.specs.Serving.{Follows, Serves, Serving, ServesInTurn, Stage}
use Rattle.irl_desk.proofs.Entering.{both_serve}

-- all of them together
module _ {S : Type 0} (told : S → Told) (lawful : (s : S) → IsConsistent (told s)) (old new : Serving S) where
  together : (done : List Entered) (mid : Serving S) (stages : List (Stage S)) → Serves told done old mid → ServesInTurn told stages mid new → (news : List Entered) × Serves told news old new
  together done mid [] serves same = (done, subst (λ (x : Serving S). Serves told done old x) (sym same) serves)
  together done mid (stage ∷ more) serves turns =
      together (done ++ stage.news) stage.left more (both_serve told lawful done stage.news old mid stage.left serves turns.0) turns.1

  -- what was entered is what it served
  entered : (news : List Entered) → Serves told news old new → (last : Option Fault) → old.last ≡ last → new.entries ≡ old.entries ++ news
  entered news serves None is = (serves.enters is).entries
  entered news serves (Some fault) is =
      let again = serves.again fault is in
      ap (λ (x : Serving S). x.entries) again.1 ∙ sym (append-nil old.entries) ∙ ap (λ (l : List Entered). old.entries ++ l) (sym again.0)

  pub serves_all : Serves told [] old old → (news : List Entered) → Follows told old new → new.entries ≡ old.entries ++ news → Serves told news old new
  serves_all same news follows entries =
      let all = together [] old follows.0 same follows.1 in
      let news_are : old.entries ++ all.0 ≡ old.entries ++ news = sym (entered all.0 all.1 old.last refl) ∙ entries in
      subst (λ (l : List Entered). Serves told l old new) (append_cancel_left old.entries all.0 news news_are) all.1
