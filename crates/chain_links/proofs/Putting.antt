-- A free node that was taken and filled.
use Rattle.std.proofs.Common.{◌≡◌, ◌∙◌, ℕ, List, [], ◌∷◌, ◌++◌, length, append_assoc, ap, subst, sym}
use Rattle.chain_links.proofs.Passing.{Kept}
use Rattle.chain_links.specs.Copying.{IsPut, put_steps}
use Rattle.node_pool.specs.Pool.{IsFilled, IsTaken, store_steps}
use Rattle.step_rules.proofs.Keeps.Stores.{stored_nodes}
use Rattle.step_rules.proofs.Ties.Pools.{words_not_stored}
use Rattle.step_rules.proofs.Ties.Tied.{own_free_still}
use Rattle.step_rules.specs.Bags.{IsWithout}
use Rattle.step_rules.specs.Claims.{BACK}
use Rattle.step_rules.specs.SeatData.{IsSeat, SeatData}
use Rattle.step_rules.specs.Steps.{IsUnannounced, stepped}
use Rattle.step_rules.specs.Views.{claim_of, counted, words_in}
use Rattle.step_rules.specs.World.{nodes_of}
use Rattle.step_rules.specs.declared.view.Kind.TheVariants.{NodeStore}

-- a free node isn't announced
pub taken_unannounced : {node : ℕ} {before taken : SeatData} → IsSeat before → IsTaken node before taken → IsUnannounced node taken.view
taken_unannounced {node} {before} {taken} law t = own_free_still before.free before.view taken.view law.own_free (ap (λ (z : SeatData). z.view.claims) t.same) node t.was_free

pub is_put : {node : ℕ} {words : List ℕ} {before taken now : SeatData} → IsTaken node before taken → IsFilled node words taken now → IsPut node words before now
is_put {node} {words} {before} {taken} {now} t f =
    let free : now.free ≡ taken.free = ap (λ (z : SeatData). z.free) f.same in
    let holding : now.holding ≡ taken.holding = ap (λ (z : SeatData). z.holding) f.same in
    let seen = length before.view.seen in
    let trail : (before.view.trail ++ counted (NodeStore node 0 0) 0 seen ∷ []) ++ store_steps node 0 words seen ≡ before.view.trail ++ put_steps node words seen =
    append_assoc before.view.trail (counted (NodeStore node 0 0) 0 seen ∷ []) (store_steps node 0 words seen) in record {
      was_free = t.was_free;
      free = subst (λ (l : List ℕ). IsWithout node before.free l) (sym free) t.free;
      holding = holding ∙ t.holding;
      words_there = f.words_there;
      others = λ m ne. f.others m ne ∙ (ap (λ (z : SeatData). words_in z.view.own m) t.same ∙ words_not_stored node 0 0 m before.view.own ne);
      nodes = f.nodes ∙ (ap (λ (z : SeatData). nodes_of z.view.own) t.same ∙ stored_nodes node 0 0 before.view.own);
      same = f.same
          ∙ (ap (λ (z : SeatData). stepped (record z.view { own = now.view.own; trail = z.view.trail ++ store_steps node 0 words (length z.view.seen) }) z) t.same
          ∙ (λ i. record (stepped (record before.view { own = now.view.own; trail = trail i }) before) { free = sym free i; holding = sym holding i }));
    }

pub put_kept : {node : ℕ} {words : List ℕ} {old now : SeatData} → IsPut node words old now → Kept old now
put_kept p = record {
  back = ap (λ (z : SeatData). claim_of BACK z.view) p.same;
  noted = ap (λ (z : SeatData). z.noted) p.same;
  object = ap (λ (z : SeatData). z.object) p.same;
  plan = ap (λ (z : SeatData). z.view.plan) p.same;
}
