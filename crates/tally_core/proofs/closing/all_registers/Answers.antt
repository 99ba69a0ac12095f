use Rattle.std.proofs.Common.{◌∙◌, ◌++◌, ◌∷◌, [], List, ℕ, ap₂, length, sym, arith}
use Rattle.std.proofs.lemmas.List.FromFn.{map-range_with_len_more}
use Rattle.seat_history.specs.History.{state_at}
use Rattle.tally_core.proofs.closing.all_registers.Goals as goal

pub loop-reg-preserved : goal.loop-reg-preserved
loop-reg-preserved c =
    let words = (state_at c.args.closed.now.history (length c.args.closed.now.history)).registers in
    c.in_ok-push.ensures.items ∙ ap₂ (λ (rs : List (List ℕ)) (r : List ℕ). rs ++ r ∷ []) c.loop-reg.invariant c.register.ensures
    ∙ sym (map-range_with_len_more words 0 c.loop-reg.reg c.loop-reg.reg (omega arith))
