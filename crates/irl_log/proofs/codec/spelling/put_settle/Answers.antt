use Rattle.std.proofs.Common.{◌≡◌, ◌∙◌, ◌+◌, ◌*◌, ◌++◌, length, refl, sym, ap, arith, append-nil, append_assoc, length-append}
use Rattle.std.specs.List.{flat_map}
use Rattle.std.specs.Int.{w32, w64, to_le_bytes}
use Rattle.irl_offer.specs.declared.outcome.Outcome.TheVariants.{Page}
use Rattle.irl_log.specs.Spelling.{done_bytes}
use Rattle.irl_log.proofs.Pieces.{draft, put_then, room_left, next_fits, next_put, all_put}
use Rattle.irl_log.proofs.Spellings.{length-settle, length-words}
use Rattle.irl_log.proofs.codec.spelling.put_settle.Goals as goal

pub put_numbers-requires : goal.put_numbers-requires
put_numbers-requires c =
    let count = to_le_bytes w32 (length c.args.done.now) in
    let left = room_left c.args.frame.now.room (c.args.frame.now.bytes ++ count) c.put_length.new.frame c.put_length.ensures in
    omega (arith, left, c.requires, length-settle c.args.fronts.now c.args.done.now, length-append c.args.frame.now.bytes count)

pub loop-one-init : goal.loop-one-init
loop-one-init c =
    let count = to_le_bytes w32 (length c.args.done.now) in
    let room = c.args.frame.now.room in
    let both = put_then room (c.args.frame.now.bytes ++ count) (flat_map (to_le_bytes w64) c.args.fronts.now) c.put_length.new.frame c.put_numbers.new.frame c.put_length.ensures
    c.put_numbers.ensures in
    both ∙ ap (draft room) (sym (append-nil _))

pub put_done-requires : goal.put_done-requires
put_done-requires c =
    let before = (c.args.frame.now.bytes ++ to_le_bytes w32 (length c.args.done.now)) ++ flat_map (to_le_bytes w64) c.args.fronts.now in
    let count = to_le_bytes w32 (length c.args.done.now) in
    let long : length before ≡ length c.args.frame.now.bytes + 4 + 8 * length c.args.fronts.now =
    omega (arith, length-append (c.args.frame.now.bytes ++ count) (flat_map (to_le_bytes w64) c.args.fronts.now), length-append c.args.frame.now.bytes count, length-words c.args.fronts.now) in
    next_fits done_bytes 13 c.args.done.now before c.args.frame.now.room c.loop-one.one-index c.loop-one.frame (λ d. refl)
    (omega (arith, long, c.requires, length-settle c.args.fronts.now c.args.done.now)) c.loop-one-test.true c.loop-one.invariant

pub loop-one-preserved : goal.loop-one-preserved
loop-one-preserved c =
    let before = (c.args.frame.now.bytes ++ to_le_bytes w32 (length c.args.done.now)) ++ flat_map (to_le_bytes w64) c.args.fronts.now in
    next_put done_bytes c.args.done.now before c.args.frame.now.room c.loop-one.one-index (0, Page) c.loop-one.frame c.put_done.new.frame c.loop-one-test.true c.loop-one.invariant c.put_done.ensures

pub returns : goal.returns
returns c =
    let count = to_le_bytes w32 (length c.args.done.now) in
    let fronts = flat_map (to_le_bytes w64) c.args.fronts.now in
    let done = flat_map done_bytes c.args.done.now in
    let whole : c.loop-one.frame ≡ draft c.args.frame.now.room (((c.args.frame.now.bytes ++ count) ++ fronts) ++ done) =
    all_put done_bytes c.args.done.now ((c.args.frame.now.bytes ++ count) ++ fronts) c.args.frame.now.room c.loop-one.one-index c.loop-one.frame (omega (arith, c.loop-one-test.false))
    c.loop-one.invariant in
    whole ∙ ap (draft c.args.frame.now.room) (append_assoc (c.args.frame.now.bytes ++ count) fronts done ∙ append_assoc c.args.frame.now.bytes count (fronts ++ done))
