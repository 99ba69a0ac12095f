-- How every held node becomes free again.
use Rattle.std.proofs.Common.{◌≡◌, ◌∙◌, ℕ, ◌+◌, true, [], ◌∷◌, length, refl, sym, ap, arith}
use Rattle.std.proofs.lemmas.List.{nil_from_length}
use lib.ListN.{get_elem?}
use Rattle.node_pool.specs.Pool.{IsAllPutBack, IsPutBack}
use Rattle.step_rules.proofs.Numbers.Bags.{times-append, was_there}
use Rattle.step_rules.specs.Bags.{times}
use Rattle.step_rules.specs.Claims.{OWN}
use Rattle.step_rules.specs.SeatData.{IsOf, NoneAnnounced, ObjectData, SeatData}
use Rattle.step_rules.specs.Steps.{IsUnannounced}
use Rattle.step_rules.specs.World.{has}

-- as far as it has come: what is held still was held, and the free and the held nodes together stay
pub record IsPutSoFar (old now : SeatData) : Type 0 where
  pub held : (n : ℕ) → has now.holding n ≡ true → has old.holding n ≡ true
  pub sum : (n : ℕ) → times n now.free + times n now.holding ≡ times n old.free + times n old.holding
  pub same : now ≡ record old { free = now.free; holding = now.holding }

pub put_none : (old : SeatData) → IsPutSoFar old old
put_none old = record { held = λ n h. h; sum = λ n. refl; same = refl }

pub put_more : {node : ℕ} {old mid now : SeatData} → IsPutSoFar old mid → IsPutBack node mid now → IsPutSoFar old now
put_more {node} {old} {mid} {now} s p = record {
  held = λ n h. s.held n (was_there node n mid.holding now.holding p.holding h);
  sum = λ n. omega (arith, s.sum n, p.holding.times n, ap (times n) p.free, times-append n mid.free (node ∷ []));
  same = p.same ∙ ap (λ (z : SeatData). record z { free = now.free; holding = now.holding }) s.same;
}

pub put_all : {old now : SeatData} → IsPutSoFar old now → length now.holding ≡ 0 → IsAllPutBack old now
put_all {now = now} s none =
    let holding = nil_from_length now.holding none in
    record { holding = holding; free = λ n. omega (arith, s.sum n, ap (times n) holding); same = s.same }

module _ {old now : SeatData} (s : IsPutSoFar old now) where
  pub put_of : {shared : ObjectData} → IsOf shared old → IsOf shared now
  put_of of = record { object = ap (λ (z : SeatData). z.object) s.same ∙ of.object; plan = ap (λ (z : SeatData). z.view.plan) s.same ∙ of.plan }

  pub none_claims : (node : ℕ) → has now.holding node ≡ true → NoneAnnounced old.holding old.view → IsUnannounced node now.view
  none_claims node held none y at = none node (s.held node held) y (ap (λ (z : SeatData). get_elem? z.view.claims OWN) (sym s.same) ∙ at)
