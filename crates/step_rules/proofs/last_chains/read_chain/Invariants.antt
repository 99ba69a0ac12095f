use Rattle.std.proofs.Common.{List}
use Rattle.std.specs.Mem.Slots.{slots_items}
use Rattle.seat_history.specs.Plain.{found_in}
use Rattle.step_rules.proofs.Order.LastChains.{GoesOn}
use Rattle.step_rules.specs.Closing.{IsChainAt}
use Rattle.step_rules.specs.declared.view.Held.{Held}
use Rattle.step_rules.proofs.last_chains.read_chain.Given as goal

abbrev pub invariant-loop-turn : goal.invariant-loop-turn
invariant-loop-turn l = (chain : List Held) → IsChainAt (slots_items l.words.words) l.start l.nodes l.first chain → GoesOn (found_in l.fn.map) (found_in l.map) chain l._turn l.node
