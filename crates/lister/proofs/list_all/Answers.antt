-- `list_all` shows the actors one behind another. Assumes nothing.
use Rattle.std.proofs.Common.{arith, ◌≡◌, ◌+◌, ◌-◌, ◌*◌, ◌%◌, ℕ, get_or}
use Rattle.lister.specs.ActorLaws.{actors-next, actors-end}
use Rattle.lister.proofs.list_all.Goals as goal

pub loop-a-preserved : goal.loop-a-preserved
loop-a-preserved c =
    let n : ℕ = get_or c.args.t.now 0 0 % 5 in
    let e : n - (c.loop-a.a + 1) ≡ n - c.loop-a.a - 1 = omega arith in
    let d : 256 + 3200 * (c.loop-a.a + 1) ≡ 256 + 3200 * c.loop-a.a + 3200 = omega arith in
    rw (e, d) (actors-next _ _ _ _ c.loop-a.invariant (λ z. omega arith) (rw c.from.ensures at c.show_actor.ensures))

pub returns : goal.returns
returns c = actors-end _ _ _ _ (omega arith) c.loop-a.invariant
