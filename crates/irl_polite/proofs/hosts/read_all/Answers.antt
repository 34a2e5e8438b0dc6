use Rattle.std.proofs.Common.{◌∙◌, ◌++◌, ◌∷◌, [], ℕ, refl, sym, ap, subst}
use Rattle.std.specs.List.{AllZip}
use Rattle.irl_offer.specs.declared.note.Note.{Note}
use Rattle.irl_polite.specs.declared.known.Known.{Known}
use Rattle.irl_polite.specs.Inside.{place_of, Grows, IsRead}
use Rattle.irl_polite.proofs.GrowLemmas.{grows_on, all_zip_push, all_zip_weaker}
use Rattle.irl_polite.proofs.hosts.read_all.Goals as goal

pub loop-note-preserved-in_ok-push : goal.loop-note-preserved-in_ok-push
loop-note-preserved-in_ok-push c =
    let before = c.loop-note.invariant in
    let agent = c.args.agent.now in
    let names = place_of c.loop-note.names.entries in
    let names' = place_of c.enter.new.names.entries in
    let x : Note = c.in-Some.note in
    let grown : Grows names c.loop-note.hosts.items names' c.enter.new.hosts.items = c.enter.ensures.grown in
    let entry : ℕ × Known = (c.in_ok-place.place, record { state = c.in_ok-state.state; when = x.when }) in
    let is_read : IsRead names' agent x entry = record {
      owner = ap names' (sym c.bytes.ensures) ∙ c.in_ok-place.ensures.place;
      state = c.in_ok-state.ensures.value;
      when = refl;
    } in
    record {
      grown = grows_on (place_of c.args.names.now.entries) c.args.hosts.now.items names c.loop-note.hosts.items names' c.enter.new.hosts.items before.grown grown;
      read = subst (AllZip (IsRead names' agent) (c.loop-note.yielded ++ x ∷ [])) (sym c.in_ok-push.ensures.items)
          (all_zip_push (IsRead names' agent) c.loop-note.yielded c.loop-note.read.items x entry
          (all_zip_weaker (IsRead names agent) (IsRead names' agent)
          (λ n r e. record { owner = grown.kept n.host r.0 e.owner; state = e.state; when = e.when })
          c.loop-note.yielded c.loop-note.read.items before.read)
          is_read);
    }

pub loop-note-preserved : goal.loop-note-preserved
loop-note-preserved c =
    let before = c.loop-note.invariant in
    let agent = c.args.agent.now in
    let names = place_of c.loop-note.names.entries in
    let names' = place_of c.enter.new.names.entries in
    let x : Note = c.in-Some.note in
    let grown : Grows names c.loop-note.hosts.items names' c.enter.new.hosts.items = c.enter.ensures.grown in
    let entry : ℕ × Known = (c.in_ok-place.place, record { state = c.in_ok-state.state; when = x.when }) in
    let is_read : IsRead names' agent x entry = record {
      owner = ap names' (sym c.bytes.ensures) ∙ c.in_ok-place.ensures.place;
      state = c.in_ok-state.ensures.value;
      when = refl;
    } in
    record {
      grown = grows_on (place_of c.args.names.now.entries) c.args.hosts.now.items names c.loop-note.hosts.items names' c.enter.new.hosts.items before.grown grown;
      read = subst (AllZip (IsRead names' agent) (c.loop-note.yielded ++ x ∷ [])) (sym c.in_ok-push.ensures.items)
          (all_zip_push (IsRead names' agent) c.loop-note.yielded c.loop-note.read.items x entry
          (all_zip_weaker (IsRead names agent) (IsRead names' agent)
          (λ n r e. record { owner = grown.kept n.host r.0 e.owner; state = e.state; when = e.when })
          c.loop-note.yielded c.loop-note.read.items before.read)
          is_read);
    }
