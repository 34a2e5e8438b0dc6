use Rattle.std.proofs.Common.{[], refl, sym, subst, arith}
use Rattle.std.specs.Prelude.{Ok}
use Rattle.std.proofs.KnownBytes.{Appends-nil}
use Rattle.irl_yard.specs.Looking.{LooksAs, LooksBlank, LooksMade}
use Rattle.irl_yard.proofs.Looking.{asked_of, own_agrees}
use Rattle.irl_top.specs.Outside.{lent_beside, stream}
use Rattle.irl_top.specs.Shown.{IsListingOf, Shown}
use Rattle.irl_top.specs.declared.ending.Ending.{Ending}
use Rattle.irl_top.proofs.Shows.{has_listing, none_of, shown_blank, shown_made, shown_refused}
use Rattle.irl_top.proofs.showing.list.Goals as goal

pub print_urls-printed-requires : goal.print_urls-printed-requires
print_urls-printed-requires g c =
    let yard = c.in-Ok-Made.yard in
    let made : LooksMade yard.parts (g.S.Store.told c.args.store) (g.S.Store.told yard.store) =
    subst (λ (x : _). LooksAs (g.S.Store.told c.args.store) x) c.in-Ok-Made.field-0-is c.in-Ok-Made.ensures.found in
    record { sound = (made.opens (asked_of yard.parts.urls.settings) (own_agrees yard.parts.urls.settings)).sound }

pub returns-in-Ok-Blank : goal.returns-in-Ok-Blank
returns-in-Ok-Blank g c = λ input.
    let tells = lent_beside input g.S.Store.told g.O.Sink.written g.O.Sink.faults in
    let store = c.in-Ok-Blank.store in
    let out = stream g.O.Sink.written g.O.Sink.faults c.args.output.now in
    let blank : LooksBlank (g.S.Store.told c.args.store) (g.S.Store.told store) = subst (λ (x : _). LooksAs (g.S.Store.told c.args.store) x) c.in-Ok-Blank.field-0-is c.in-Ok-Blank.ensures.found in
    shown_blank IsListingOf (tells c.args.store c.args.output.now) (tells store c.args.output.now) (Ok tt) [] blank refl (record {
      text = [];
      written = Appends-nil out.bytes;
      is = (none_of [], refl);
      kinds = tt;
      output = record { later = omega arith; rose = λ e. let no : ⊥ = cc in absurd no };
    }) refl

pub returns-in-Ok-Made : goal.returns-in-Ok-Made
returns-in-Ok-Made g c = λ input.
    let tells = lent_beside input g.S.Store.told g.O.Sink.written g.O.Sink.faults in
    let yard = c.in-Ok-Made.yard in
    let later = c.print_urls-printed.new.yard in
    let out = c.print_urls-printed.new.output in
    let before = tells c.args.store c.args.output.now in
    let made : LooksMade yard.parts (g.S.Store.told c.args.store) (g.S.Store.told yard.store) =
    subst (λ (x : _). LooksAs (g.S.Store.told c.args.store) x) c.in-Ok-Made.field-0-is c.in-Ok-Made.ensures.found in
    subst (λ (s : g.row.S.Denot). Shown IsListingOf before (tells s out) c.of.result) (sym c.into_store.ensures)
    (subst (λ (e : Ending). Shown IsListingOf before (tells later.store out) e) (sym c.of.ensures)
    (shown_made IsListingOf before (tells later.store out) (g.S.Store.told yard.store) yard.parts c.print_urls-printed.result (g.met.S.Store.is_consistent yard.store) made
    c.print_urls-printed.ensures refl))

pub returns-in-Err : goal.returns-in-Err
returns-in-Err g c = λ input.
    let tells = lent_beside input g.S.Store.told g.O.Sink.written g.O.Sink.faults in
    let before = tells c.args.store c.args.output.now in
    let after = tells c.in-Err.store c.args.output.now in
    subst (λ (e : Ending). Shown IsListingOf before after e) (sym c.into.ensures)
    (shown_refused IsListingOf before after c.in-Err.fault has_listing c.in-Err.ensures.refused refl refl)
