use Prim.Native.Nat.{◌-◌}
use Rattle.planes.proofs.Bodies.{RepeatBodyAt}
use Rattle.planes.proofs.repeat.repeat_body.Given as goal

abbrev pub invariant-loop-k : goal.invariant-loop-k
invariant-loop-k l =
    RepeatBodyAt l.initial.scratch l.w l.temp l.out l.low l.times l.initial.counted l.scratch l.counted l.from l.to l.k l.k

-- the `for` needs no measure; the edit `never_ends` does
abbrev pub decreases-loop-k : goal.decreases-loop-k
decreases-loop-k l = l.times - l.k
