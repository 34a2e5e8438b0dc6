-- A field gives its value where it has the name, and else nothing.
use Rattle.std.proofs.Common.{◌≡◌, ◌+◌, ◌∷◌, ◌++◌, [], true, false, All, length, map, drop, get_or, sym, ap, ◌∙◌, subst}
use Rattle.std.proofs.lemmas.List.Elements.{All-push}
use Rattle.httparse.specs.declared.spans.HeaderSpan.{HeaderSpan}
use Rattle.httparse.specs.Spans.{IsWithin, span_bytes, header_bytes}
use Rattle.irl_http.specs.Fields.{values}
use Rattle.irl_http.proofs.FieldLemmas.{value_next, value_pushed}
use Rattle.irl_http.proofs.fields.values.Goals.{then-has_name+in_ok-push, else-has_name}
use Rattle.irl_http.proofs.fields.values.Goals as goal

pub loop-header-preserved : goal.loop-header-preserved
loop-header-preserved c =
    let buf = c.args.bytes.now in
    let name = c.args.name.now in
    let headers = c.args.headers.now in
    let i = c.loop-header.header-index in
    let d : HeaderSpan = record { name = record { start = 0; end = 0 }; value = record { start = 0; end = 0 } } in
    let v = (get_or headers i d).value in
    let rest = values name (map (header_bytes buf) (drop (i + 1) headers)) in
    let told = c.loop-header.invariant.told in
    elim c.if-has_name.branch [
      | then-has_name+in_ok-push w ↦
          let next = value_next name buf headers i d true c.loop-header-test.true (sym (w.if-has_name.ensures)) in
          let items : c.if-has_name.spans.items ≡ c.loop-header.spans.items ++ v ∷ [] = ap (λ s. s.items) w.spans-is ∙ w.in_ok-push.ensures.items in
          record {
            told = subst (λ l. map (span_bytes buf) l ++ rest ≡ values name (map (header_bytes buf) headers)) (sym items)
                (value_pushed buf c.loop-header.spans.items v rest _ (ap (λ l. map (span_bytes buf) c.loop-header.spans.items ++ l) (sym next) ∙ told));
            within = subst (All (IsWithin (length buf))) (sym items) (All-push (IsWithin (length buf)) c.loop-header.spans.items v c.loop-header.invariant.within
                (c.requires i d c.loop-header-test.true).1);
          }
      | else-has_name w ↦
          let next = value_next name buf headers i d false c.loop-header-test.true (sym (w.if-has_name.ensures)) in
          let items : c.if-has_name.spans.items ≡ c.loop-header.spans.items = ap (λ s. s.items) w.spans-is in
          record {
            told = subst (λ l. map (span_bytes buf) l ++ rest ≡ values name (map (header_bytes buf) headers)) (sym items) (ap (λ l. map (span_bytes buf) c.loop-header.spans.items ++ l) (sym next)
                ∙ told);
            within = subst (All (IsWithin (length buf))) (sym items) c.loop-header.invariant.within;
          }
    ]
