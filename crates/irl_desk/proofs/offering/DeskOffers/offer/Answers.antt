use Rattle.std.proofs.Common.{◌≡◌, ◌∙◌, ◌<◌, ℕ, List, [], ◌∷◌, ◌++◌, map, None, rules, refl, sym, ap, subst}
use Rattle.irl_offer.specs.Buckets.{bucket_of}
use Rattle.irl_offer.specs.Offering.{Entered, IsTakenBy}
use Rattle.irl_offer.specs.Tuple.{Tuple}
use Rattle.irl_offer.specs.declared.settings.Settings.{Settings}
use Rattle.irl_key.specs.Links.{IsCanonicalText}
use Rattle.irl_disk.specs.Images.{Told}
use Rattle.irl_bay.specs.Drum.{IsDrum}
use Rattle.irl_schedule.specs.Schedule.{none_more}
use Rattle.irl_yard.specs.Holding.{IsSound}
use Rattle.irl_desk.specs.declared.desk.Taken.{Taken}
use Rattle.irl_desk.specs.Serving.{Follows, Serves, Serving, moment_at, serving_of}
use Rattle.irl_desk.specs.Stepping.{handed_at}
use Rattle.irl_desk.proofs.Answering.{last_err, last_ok, map_push, receipt_is, serves_first, serves_pushed}
use Rattle.irl_desk.proofs.Entering.{IsPushed, enters_steps}
use Rattle.irl_desk.proofs.offering.DeskOffers.offer.Goals as goal

pub returns-in-Err-clause-serves : goal.returns-in-Err-clause-serves
returns-in-Err-clause-serves g c =
    let old = serving_of c.args.self.now in
    let intake = c.make_room.new.intake in
    let does = c.make_room.ensures in
    let none : c.args.self.now.last ≡ None = search rules in
    let new : Serving g.row.S.Denot = record { store = intake.yard.store; parts = intake.yard.parts; arrays = intake.arrays.items; entries = old.entries; last = c.kept-self.result } in
    serves_first g.S.Store.told [] old new none
    (enters_steps g.S.Store.told c.make_room.result none_more old new refl does.rest intake.arrays_are (last_err c.make_room.result c.in-Err.fault c.kept-self.result c.in-Err.is c.kept-self.ensures)
    does.goes_on does.steps)

pub returns-then-is_err-clause-serves : goal.returns-then-is_err-clause-serves
returns-then-is_err-clause-serves g c =
    let old = serving_of c.args.self.now in
    let intake = c.make_room.new.intake in
    let does = c.make_room.ensures in
    let none : c.args.self.now.last ≡ None = search rules in
    let items : c.push-was_noted.new.self.items ≡ c.args.self.now.entries.items = search rules in
    let same = ap (λ (l : _). map (λ taken. record { receipt = taken.value.receipt; offer = taken.value.offer }) l) items in
    let new : Serving g.row.S.Denot = record {
      store = intake.yard.store;
      parts = intake.yard.parts;
      arrays = intake.arrays.items;
      entries = map (λ taken. record { receipt = taken.value.receipt; offer = taken.value.offer }) c.push-was_noted.new.self.items;
      last = c.args.self.now.last;
    } in
    serves_first g.S.Store.told [] old new none
    (enters_steps g.S.Store.told c.make_room.result none_more old new same does.rest intake.arrays_are (last_ok c.make_room.result c.in-Ok.number c.args.self.now.last c.in-Ok.is none) does.goes_on
    does.steps)

pub returns-clause-serves : goal.returns-clause-serves
returns-clause-serves g c =
    let told = g.S.Store.told in
    let old = serving_of c.args.self.now in
    let intake = c.make_room.new.intake in
    let last = c.push.new.self in
    let does = c.make_room.ensures in
    let b = c.bucket_of-b.result in
    let none : c.args.self.now.last ≡ None = search rules in
    let one : Entered = record { receipt = record { bucket = b; number = c.in-Ok.number }; offer = c.args.offer } in
    let mid : Serving g.row.S.Denot = record { store = intake.yard.store; parts = intake.yard.parts; arrays = intake.arrays.items; entries = old.entries; last = c.args.self.now.last } in
    let new : Serving g.row.S.Denot = record {
      store = last.yard.store;
      parts = last.yard.parts;
      arrays = last.arrays.items;
      entries = map (λ taken. record { receipt = taken.value.receipt; offer = taken.value.offer }) c.push-was_noted.new.self.items;
      last = c.args.self.now.last;
    } in
    let first = enters_steps told c.make_room.result none_more old mid refl does.rest intake.arrays_are (last_ok c.make_room.result c.in-Ok.number c.args.self.now.last c.in-Ok.is none) does.goes_on
    does.steps in
    let settings = does.steps.stays.settings in
    let bucket : b ≡ bucket_of intake.yard.parts.urls.settings.buckets c.args.offer.key =
    c.bucket_of-b.ensures.value ∙ ap (λ (s : Settings). bucket_of s.buckets c.offer.inside.key) (c.settings.ensures.value ∙ sym settings)
    ∙ ap (λ (o : Tuple). bucket_of intake.yard.parts.urls.settings.buckets o.key) c.offer.view_is in
    let inside : b < intake.yard.parts.urls.settings.buckets = subst (λ (s : Settings). b < s.buckets) (c.settings.ensures.value ∙ sym settings) c.bucket_of-b.ensures.within in
    let sound : IsSound intake.yard.parts = c.in-Ok.ensures.goes_on.sound (λ failed. let no : ⊥ = cc in absurd no) in
    let items : c.push-was_noted.new.self.items ≡ c.args.self.now.entries.items ++ c.of.result ∷ [] = search rules in
    let of : Taken → Entered = λ taken. record { receipt = taken.receipt; offer = taken.offer } in
    let entries : new.entries ≡ old.entries ++ one ∷ [] = map_push _ c.args.self.now.entries.items c.push-was_noted.new.self.items c.of.result one items (ap of c.of.ensures) in
    let push : IsPushed told one mid new = record {
      store = ap (λ (y : _). y.store) c.push.ensures.same;
      parts = ap (λ (y : _). y.parts) c.push.ensures.same;
      entries = entries;
      last = none;
      arrays_before = intake.arrays_are;
      arrays = last.arrays_are;
      sound = subst (λ (y : _). IsSound y.parts) (sym c.push.ensures.same) sound;
      drum = subst (λ (y : _). IsDrum y.parts.urls) (sym c.push.ensures.same) does.goes_on.drum;
      keeps = c.push.ensures.keeps;
      fed = c.push.ensures.fed;
      stays = c.push.ensures.stays;
      taken = subst (λ (s : Settings). IsTakenBy IsCanonicalText s.kind c.args.offer) (sym settings) c.requires;
      bucket = subst (λ (n : ℕ). n < intake.yard.parts.urls.settings.buckets) bucket inside;
      receipt = receipt_is intake.yard.parts.urls.settings.buckets (handed_at (moment_at told mid)) b c.in-Ok.number c.args.offer bucket c.in-Ok.ensures.number;
    } in
    serves_pushed told one old mid new (g.met.S.Store.is_consistent intake.yard.store) none none first push

-- ---- what it was made of
followed : {S : Type 0} (told : S → Told) (news : List Entered) (old new : Serving S) → Serves told news old new → Follows told old new
followed told news old new serves = (record { news = news; left = new } ∷ [], (serves, refl))

pub returns-in-Some-clause-follows : goal.returns-in-Some-clause-follows
returns-in-Some-clause-follows g c = ([], refl)

pub returns-in-Err-clause-follows : goal.returns-in-Err-clause-follows
returns-in-Err-clause-follows g c = followed g.S.Store.told [] _ _ (returns-in-Err-clause-serves g c)

pub returns-then-is_err-clause-follows : goal.returns-then-is_err-clause-follows
returns-then-is_err-clause-follows g c = followed g.S.Store.told [] _ _ (returns-then-is_err-clause-serves g c)

pub returns-clause-follows : goal.returns-clause-follows
returns-clause-follows g c = followed g.S.Store.told _ _ _ (returns-clause-serves g c)
