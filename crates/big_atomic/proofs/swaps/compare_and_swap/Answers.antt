use Rattle.std.proofs.Common.{rules, subst}
use Rattle.big_atomic.proofs.Beginning.{begins, swap_late, swap_starts}
use Rattle.big_atomic.specs.Calls.{IsSwapped}
use Rattle.big_atomic.specs.declared.answers.Swap.TheVariants.{No as SwapNo}
use Rattle.step_rules.specs.SeatData.{SeatData}
use Rattle.big_atomic.proofs.swaps.compare_and_swap.Goals as goal

-- the node is claimed
pub swap_claimed-requires : goal.swap_claimed-requires
swap_claimed-requires c =
    let s = swap_starts c.args.old c.args.new (begins c.requires.ready c.requires.there c.requires.left) (search rules)
    (search rules) c.begin-version.ensures.begun c.in-Same.ensures.tried c.in-Same.ensures.law in
    record { past = (s.0, s.1, s.3) }

pub returns-in-Same : goal.returns-in-Same
returns-in-Same c =
    let s = swap_starts c.args.old c.args.new (begins c.requires.ready c.requires.there c.requires.left) (search rules)
    (search rules) c.begin-version.ensures.begun c.in-Same.ensures.tried c.in-Same.ensures.law in
    let e = c.swap_claimed.ensures.ends s.0 s.1 s.3 in
    record { ready = e.1; swapped = subst (λ (z : SeatData). IsSwapped c.args.reg c.args.old c.args.new c.swap_claimed.result z c.swap_claimed.new.seat) s.2 e.0 }

-- another caller's change came before
pub refuse-requires : goal.refuse-requires
refuse-requires c =
    let s = swap_late c.args.old c.args.new (begins c.requires.ready c.requires.there c.requires.left) (search rules)
    (search rules) c.begin-version.ensures.begun c.in-Other.ensures.tried c.in-Other.ensures.law in
    record { past = (s.0, s.1, s.3) }

pub returns-in-Other : goal.returns-in-Other
returns-in-Other c =
    let s = swap_late c.args.old c.args.new (begins c.requires.ready c.requires.there c.requires.left) (search rules)
    (search rules) c.begin-version.ensures.begun c.in-Other.ensures.tried c.in-Other.ensures.law in
    let e = c.refuse.ensures.ends s.0 s.1 s.3 in
    record { ready = e.1; swapped = subst (λ (z : SeatData). IsSwapped c.args.reg c.args.old c.args.new SwapNo z c.refuse.new.seat) s.2 e.0 }
