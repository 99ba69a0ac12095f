-- Which datagrams an engine has sent, as more of them come, and the order of engines.
use Rattle.std.proofs.Common.{◌≡◌, ◌≢◌, ◌∙◌, ℕ, zero, suc, ◌<◌, ◌≤◌, List, [], ◌∷◌, ◌++◌, ap, refl, sym, subst, arith, Decides, ⊎_elim}
use Rattle.std.specs.Prelude.{Bool, true, false, cond, eqb, length, get_or, map, Contains}
use Rattle.std.specs.BTreeMap.{is_at}
use Rattle.std.specs.Cmp.{IsTotalOrder, Equal-is, eq_by_cmp_equiv, nat_cmp_total, on_total}
use Rattle.std.specs.Ordering.{nat_cmp}
use Rattle.std.proofs.lemmas.Bool.{cases_Bool}
use Rattle.std.proofs.lemmas.Bool.Decides.{Decides-and, Decides-eqb}
use Rattle.std.proofs.lemmas.Cmp.{then_total}
use Rattle.std.proofs.lemmas.List.Elements.{filter-append}
use Rattle.std.proofs.lemmas.List.Sums.{count_by-le-length, length-filter}
use Rattle.std.proofs.lemmas.Map.Lookups.{CmpEqualImpliesEq, exact_pairs, exact_unsigned}
use Rattle.netflow_five.specs.Engines.{Engine, engine_cmp, engine_of, has_sent, sent_by}
use Rattle.netflow_five.specs.declared.seq_mark.SeqMark.{SeqMark}

-- engines are in a total order
pub engine_cmp_total : IsTotalOrder engine_cmp
engine_cmp_total = then_total (on_total (λ (e : Engine). e.0) nat_cmp_total) (on_total (λ (e : Engine). e.1) nat_cmp_total)

-- engines that compare alike are one
pub exact_engines : CmpEqualImpliesEq engine_cmp
exact_engines = exact_pairs nat_cmp nat_cmp exact_unsigned exact_unsigned

-- an engine is at another exactly if they are one
pub same_engine : (a b : Engine) → Decides (is_at (engine_cmp a) b) (a ≡ b)
same_engine a b = (
  λ h. exact_engines a b ((Equal-is (engine_cmp a b)).0 h),
  λ e. subst (λ (k : Engine). is_at (engine_cmp a) k ≡ true) e ((eq_by_cmp_equiv engine_cmp_total).refl a),
)

-- an engine has sent a datagram exactly if it is the datagram's engine
pub has_sent-engine : (engine : Engine) (mark : SeqMark) → Decides (has_sent engine mark) (engine ≡ engine_of mark)
has_sent-engine engine mark =
    let both = Decides-and (eqb engine.0 mark.engine_type) (eqb engine.1 mark.engine_id)
    (Decides-eqb engine.0 mark.engine_type) (Decides-eqb engine.1 mark.engine_id) in
    (λ h. let parts = both.0 h in λ i. (parts.0 i, parts.1 i), λ e. both.1 (ap (λ (p : Engine). p.0) e, ap (λ (p : Engine). p.1) e))

-- what an engine has sent of datagrams in a row is that of each part
pub sent_by-append : (engine : Engine) (marks others : List SeqMark) → sent_by engine (marks ++ others) ≡ sent_by engine marks ++ sent_by engine others
unfolding sent_by
sent_by-append engine marks others = filter-append (has_sent engine) marks others

pub sent_by-one : (engine : Engine) (mark : SeqMark) → sent_by engine (mark ∷ []) ≡ cond (has_sent engine mark) (mark ∷ []) []
unfolding sent_by
sent_by-one engine mark = refl

pub sent_by-le-length : (engine : Engine) (marks : List SeqMark) → length (sent_by engine marks) ≤ length marks
unfolding sent_by
sent_by-le-length engine marks = omega (arith, length-filter (has_sent engine) marks, count_by-le-length (has_sent engine) marks)

sent_by-cons : (engine : Engine) (mark : SeqMark) (marks : List SeqMark)
    → sent_by engine (mark ∷ marks) ≡ cond (has_sent engine mark) (mark ∷ sent_by engine marks) (sent_by engine marks)
unfolding sent_by
sent_by-cons engine mark marks = refl

-- an engine that occurs in datagrams has sent some of them
occurs_at : (engine : Engine) (marks : List SeqMark) (k : ℕ) → k < length (map engine_of marks)
    → get_or (map engine_of marks) k engine ≡ engine → sent_by engine marks ≢ []
occurs_at engine [] k below at = absurd (omega arith)
occurs_at engine (mark ∷ marks) zero below at = λ none.
    let here = ap (λ (b : Bool). cond b (mark ∷ sent_by engine marks) (sent_by engine marks)) ((has_sent-engine engine mark).1 (sym at)) in
    nil_cons mark (sent_by engine marks) (sym here ∙ sym (sent_by-cons engine mark marks) ∙ none)
  where
    nil_cons : (mark : SeqMark) (marks : List SeqMark) → mark ∷ marks ≢ []
    nil_cons mark marks e = cc
occurs_at engine (mark ∷ marks) (suc k) below at = λ none.
    occurs_at engine marks k (omega arith) at (none_later (has_sent engine mark) mark (sent_by engine marks) (sym (sent_by-cons engine mark marks) ∙ none))
  where
    none_later : (b : Bool) (mark : SeqMark) (later : List SeqMark) → cond b (mark ∷ later) later ≡ [] → later ≡ []
    none_later true mark later e = cc
    none_later false mark later e = e

pub sends_some : (engine : Engine) (marks : List SeqMark) → Contains (map engine_of marks) engine → sent_by engine marks ≢ []
sends_some engine marks (k, below, at) = occurs_at engine marks k below at

sent_by-nil : (engine : Engine) → sent_by engine [] ≡ []
unfolding sent_by
sent_by-nil engine = refl

-- and the other way round
pub occurs : (engine : Engine) (marks : List SeqMark) → sent_by engine marks ≢ [] → Contains (map engine_of marks) engine
occurs engine [] some = absurd (some (sent_by-nil engine))
occurs engine (mark ∷ marks) some =
    let here : has_sent engine mark ≡ true → Contains (map engine_of (mark ∷ marks)) engine =
    λ e. (zero, omega arith, sym ((has_sent-engine engine mark).0 e)) in
    let later : has_sent engine mark ≡ false → Contains (map engine_of (mark ∷ marks)) engine = λ e.
    let kept : sent_by engine (mark ∷ marks) ≡ sent_by engine marks =
    sent_by-cons engine mark marks ∙ ap (λ (b : Bool). cond b (mark ∷ sent_by engine marks) (sent_by engine marks)) e in
    let rest = occurs engine marks (λ none. some (kept ∙ none)) in
    (suc rest.0, omega arith, rest.2) in
    ⊎_elim here later (cases_Bool (has_sent engine mark))
