-- What a closed object has that workers added pairs to.
use Rattle.std.proofs.Common.{◌≡◌, ◌∙◌, ℕ, ◌^◌, cond, true, ◌<◌, ◌≤◌, ◌⊎◌, inl, inr, All, Bool, false, List}
use Rattle.std.proofs.Common.{[], None, length, take, map, refl, sym, subst, arith}
use Rattle.std.specs.List.Sorted.{IsPermutation}
use Rattle.std.specs.List.{AllByRecursion, AllZip}
use Rattle.std.specs.Option.{option_map}
use Rattle.std.specs.Prelude.{nat_lt}
use Rattle.std.proofs.lemmas.Bool.{cases_lt}
use Rattle.std.proofs.lemmas.List.{take_all}
use Rattle.std.proofs.lemmas.List.Sorted.{IsPermutation-sym}
use Rattle.flow_fold.proofs.Folds.{fold_none, fold_permutation, fold_same}
use Rattle.flow_fold.specs.Flows.{Flows, HasRisingKeys, value_in}
use Rattle.flow_fold.specs.Fold.{IsFold}
use Rattle.flow_fold.specs.Words.{value_of_words}
use Rattle.seat_history.specs.Contents.{Contents}
use Rattle.seat_history.specs.History.{state_at}
use Rattle.seat_history.specs.Object.{blank_object}
use Rattle.seat_history.specs.Pairs.{ArePairsOf, IsPairInRange, Pairs}
use Rattle.step_rules.proofs.Line.Lines.{Tells, line_tells}
use Rattle.step_rules.specs.Closing.{ClosedData}
use Rattle.step_rules.specs.Line.{line_of, stands_by}
use Rattle.step_rules.specs.declared.view.Stand.{Stand}
use Rattle.tally_core.proofs.AlongLine.{AreAdded, along}
use Rattle.tally_core.proofs.ClosedFlows.{flows_found, flows_rise}
use Rattle.tally_core.proofs.Folding.{flow_in}
use Rattle.tally_core.proofs.Batches.{all_drawn}
use Rattle.tally_core.proofs.Joined.{joined_flat, joined_same}
use Rattle.tally_core.specs.Adding.{Adds, AreInRange, HasTallied, IsTallyCall, adding_in, flow_of}
use Rattle.tally_core.specs.Draws.{batch_of, batches_of, drawn_pairs}
use Rattle.tally_core.specs.Tallying.{joined}
use Rattle.worker_gate.specs.Numbers.{EachOnce}

-- no value is there at the start
blank_fold : IsFold [] (flow_in blank_object.contents.values)
blank_fold = fold_none (flow_in blank_object.contents.values) (λ key. none (nat_lt key.k1 (2 ^ 64)))
  where
    none : (b : Bool) → cond b (option_map value_of_words None) None ≡ None
    none true = refl
    none false = refl

module _ (workers : ℕ) (pairs : Flows) (drawn : ℕ → List ℕ) (full : ℕ → Bool) (closed : ClosedData) (tallied : HasTallied workers pairs drawn full closed) where
  -- the pairs that a worker added
  abbrev pub part : (w : ℕ) → (w < workers) ⊎ (workers ≤ w) → Flows
  part w (inl below) = take (tallied.added w below).count (drawn_pairs pairs (drawn w))
  part w (inr beyond) = []

  abbrev pub parts : ℕ → Flows
  parts w = part w (cases_lt w workers)

  part_added : (w : ℕ) (d : (w < workers) ⊎ (workers ≤ w)) → w < workers
      → AllZip Adds (part w d) (adding_in (stands_by w closed.stands)) × AreInRange (part w d) × AllByRecursion IsTallyCall (stands_by w closed.stands)
  part_added w (inl lt) below = ((tallied.added w lt).added, (tallied.added w lt).in_range, (tallied.added w lt).calls)
  part_added w (inr le) below = absurd (omega arith)

  abbrev line : List Stand
  line = line_of closed.plan.seats closed.history closed.stands

  parts_added : AreAdded closed.plan line parts
  parts_added w below = subst (λ (l : List Stand). AllZip Adds (parts w) (adding_in l) × AreInRange (parts w) × AllByRecursion IsTallyCall l) (sym (tallied.closed_is.1.line.order w below))
      (part_added w (cases_lt w workers) (subst (λ n. w < n) tallied.workers_are below))

  line_told : Tells closed.plan closed.history blank_object [] line
  line_told = let is = tallied.closed_is.1 in line_tells closed.plan tallied.closed_is.0.view.numbers closed.history closed.stands is.whole is.lawful is.callers

  -- the object has the fold of these pairs
  pub parts_fold : IsFold (joined workers parts) (flow_in (state_at closed.history (length closed.history)).values)
  parts_fold =
      let is = tallied.closed_is.1 in
      let up = along closed.plan closed.history blank_object [] line [] parts is.line.replays line_told parts_added blank_fold in
      subst (λ n. IsFold (joined n parts) (flow_in (state_at closed.history (length closed.history)).values)) tallied.workers_are
      (subst (λ (c : Contents). IsFold (joined closed.plan.seats parts) (flow_in c.values)) is.line.contents (fold_permutation up.more (joined closed.plan.seats parts) _ up.same up.fold))

module _ (workers : ℕ) (pairs : Flows) (drawn : ℕ → List ℕ) (closed : ClosedData) (tallied : HasTallied workers pairs drawn (λ _. false) closed) where
  part_whole : (w : ℕ) (d : (w < workers) ⊎ (workers ≤ w)) → w < workers → part workers pairs drawn (λ _. false) closed tallied w d ≡ drawn_pairs pairs (drawn w)
  part_whole w (inl lt) below = let all = (tallied.added w lt).all refl in take_all (tallied.added w lt).count (drawn_pairs pairs (drawn w)) (omega arith)
  part_whole w (inr le) below = absurd (omega arith)

  parts_whole : joined workers (parts workers pairs drawn (λ _. false) closed tallied) ≡ drawn_pairs pairs (joined workers drawn)
  parts_whole = joined_same workers (parts workers pairs drawn (λ _. false) closed tallied) (λ w. drawn_pairs pairs (drawn w)) (λ w l. part_whole w (cases_lt w workers) l)
      ∙ sym (joined_flat (batch_of pairs) workers drawn)

-- the closed object's pairs are the fold of all pairs, by rising key, where no worker was answered Full and each batch was drawn once
pub folded : (workers : ℕ) (pairs : Flows) (drawn : ℕ → List ℕ) (closed : ClosedData) (words_pairs : Pairs) → EachOnce (batches_of (length pairs)) (joined workers drawn)
    → HasTallied workers pairs drawn (λ _. false) closed → ArePairsOf (state_at closed.history (length closed.history)).values words_pairs → All IsPairInRange words_pairs
    → HasRisingKeys (map flow_of words_pairs) × IsFold pairs (value_in (map flow_of words_pairs))
folded workers pairs drawn closed words_pairs once tallied are words_range =
    let values = (state_at closed.history (length closed.history)).values in
    let added : IsFold (drawn_pairs pairs (joined workers drawn)) (flow_in values) = subst (λ (l : Flows). IsFold l (flow_in values)) (parts_whole workers pairs drawn closed tallied)
    (parts_fold workers pairs drawn (λ _. false) closed tallied) in
    let order : IsPermutation (drawn_pairs pairs (joined workers drawn)) pairs = IsPermutation-sym _ _ (all_drawn pairs (joined workers drawn) once) in
    let fold : IsFold pairs (flow_in values) = fold_permutation (drawn_pairs pairs (joined workers drawn)) pairs (flow_in values) order added in
    (flows_rise values words_pairs are words_range, fold_same pairs (flow_in values) (value_in (map flow_of words_pairs)) (flows_found values words_pairs are words_range) fold)
