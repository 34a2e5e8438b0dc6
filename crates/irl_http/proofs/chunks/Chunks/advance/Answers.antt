-- A step behind the bytes that were taken is a step on all of them.
use Rattle.std.proofs.Common.{◌-◌, ◌++◌, take, drop, length, subst, IfOk, arith, length-drop}
use Rattle.std.proofs.lemmas.List.{take_rest}
use Rattle.irl_http.specs.Bodies.{IsDue, Moves, StepAs}
use Rattle.irl_http.proofs.ChunkSteps.{quiet_shift, take_on, moves_on, steps_on}
use Rattle.irl_http.proofs.chunks.Chunks.advance.Goals as goal

pub loop-n-preserved : goal.loop-n-preserved
loop-n-preserved c =
    let bytes = c.args.bytes.now in
    let at = c.loop-n.at in
    let n = c.in-Taken.n in
    let next = c.step.new.self.due in
    let body = c.step.new.self.body.items in
    let moves = subst (λ r. IfOk r (Moves c.args.want (length (take (length bytes - at) (drop at bytes))) (length body))) c.in_ok-other.was c.step.ensures.moves in
    let moved = subst (λ p. Moves c.args.want (length (drop at bytes)) (length body) p) c.in-Taken.is
    (subst (λ b. Moves c.args.want (length b) (length body) c.in_ok-other.other) (take_rest bytes at) moves) in
    record {
      within = omega (arith, moved.1, length-drop at bytes);
      room = moved.2;
      taken = λ done d.
          let t = c.loop-n.invariant.taken done d in
          let step = subst (λ r. IfOk r (StepAs c.args.want (done ++ take at bytes) (take (length bytes - at) (drop at bytes)) next body)) c.in_ok-other.was
          (c.step.ensures.step (done ++ take at bytes) t.0) in
          let s = subst (λ p. StepAs c.args.want (done ++ take at bytes) (drop at bytes) next body p) c.in-Taken.is
          (subst (λ b. StepAs c.args.want (done ++ take at bytes) b next body c.in_ok-other.other) (take_rest bytes at) step) in
          (subst (IsDue next body) (take_on done bytes at n) s.1, λ m below. quiet_shift c.args.want done bytes at n t.1 (λ k less. s.0 k (omega arith)) m below);
    }

pub returns-in_default : goal.returns-in_default
returns-in_default c =
    let bytes = c.args.bytes.now in
    let at = c.loop-n.at in
    let next = c.step.new.self.due in
    let body = c.step.new.self.body.items in
    let moves = subst (λ r. IfOk r (Moves c.args.want (length (take (length bytes - at) (drop at bytes))) (length body))) c.in_ok-other.was c.step.ensures.moves in
    record {
      moves = moves_on c.args.want bytes at (length body) c.in_ok-other.other c.in_default.not-Taken c.loop-n.invariant.within
          (subst (λ b. Moves c.args.want (length b) (length body) c.in_ok-other.other) (take_rest bytes at) moves);
      step = λ done d.
          let t = c.loop-n.invariant.taken done d in
          let step = subst (λ r. IfOk r (StepAs c.args.want (done ++ take at bytes) (take (length bytes - at) (drop at bytes)) next body)) c.in_ok-other.was
          (c.step.ensures.step (done ++ take at bytes) t.0) in
          steps_on c.args.want done bytes next body at c.in_ok-other.other c.in_default.not-Taken c.loop-n.invariant.within t.1
          (subst (λ b. StepAs c.args.want (done ++ take at bytes) b next body c.in_ok-other.other) (take_rest bytes at) step);
    }
