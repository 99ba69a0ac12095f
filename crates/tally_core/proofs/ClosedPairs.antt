-- A closed object's contents have their pairs, also where nothing read them.
use Rattle.std.proofs.Common.{◌≡◌, ◌∙◌, ℕ, ◌^◌, ◌<◌, suc, List, [], ◌∷◌, All, length, refl, sym, ap, subst, arith}
use Rattle.std.specs.List.{AllByRecursion}
use Rattle.std.proofs.lemmas.List.{take_all}
use Rattle.std.proofs.lemmas.List.Elements.{All-from_get_or}
use mathlib.Core.Option.{some}
use lib.ListN.{get_elem?}
use Rattle.seat_history.proofs.Histories.{contents-object_from}
use Rattle.seat_history.proofs.SetPairs.{AddsInRange, some_pairs}
use Rattle.seat_history.specs.Contents.{Contents, blank}
use Rattle.seat_history.specs.History.{contents_from, object_from, state_at}
use Rattle.seat_history.specs.Object.{blank_object}
use Rattle.seat_history.specs.Pairs.{ArePairsOf, IsPairInRange, Pairs}
use Rattle.seat_history.specs.declared.call.Call.TheVariants.{Insert, Replace}
use Rattle.seat_history.specs.declared.call.Call.{Call}
use Rattle.seat_history.specs.declared.entry.Entry.{Entry}
use Rattle.seat_history.specs.declared.key.KeyWords.{KeyWords}
use Rattle.seat_history.specs.declared.words.TheConstants.{VALUE_WIDTH}
use Rattle.step_rules.specs.History.{AreWords, IsHistory, IsKey, IsWide}
use Rattle.step_rules.specs.declared.plan.Plan.{Plan}

pair_in_range : (key : KeyWords) (val : List ℕ) → IsKey key → AreWords VALUE_WIDTH val → IsPairInRange (key, val)
pair_in_range key val is words = record { k0 = is.0; k1 = is.1; value = All-from_get_or (λ word. word < 2 ^ 64) val 0 (λ i l. words.below i) }

adds_in_range : (call : Call) → IsWide call → AddsInRange call
adds_in_range (Insert key val) wide = pair_in_range key val wide.0 wide.1
adds_in_range (Replace key old new) wide = pair_in_range key new wide.0 wide.1
adds_in_range _ wide = tt

all_in_range : (log : List Entry) → ((i : ℕ) (e : Entry) → get_elem? log i ≡ some e → IsWide e.call)
    → AllByRecursion (λ (e : Entry). AddsInRange e.call) log
all_in_range [] each = tt
all_in_range (e ∷ log) each = (adds_in_range e.call (each 0 e refl), all_in_range log (λ i f at. each (suc i) f at))

-- what a history leaves has pairs
pub pairs_left : (p : Plan) (history : List Entry) → IsHistory p history
    → (pairs : Pairs) × ArePairsOf (state_at history (length history)).values pairs × All IsPairInRange pairs
pairs_left p history is =
    let left = some_pairs history (all_in_range history (λ i e at. (is.each i e at).wide)) in
    let same : (object_from blank_object history).contents ≡ state_at history (length history)
    = contents-object_from blank_object history ∙ ap (contents_from blank) (sym (take_all (length history) history (omega arith))) in
    (left.0, subst (λ (c : Contents). ArePairsOf c.values left.0) same left.1, left.2)
