-- The tallies of all engines, as one datagram more is added, and the lines that they give.
use Rattle.std.proofs.Common.{◌≡◌, ◌≢◌, ◌∙◌, ℕ, Bool, true, false, cond, Option, Some, None, List, [], ◌∷◌, ◌++◌, append-nil, ap, refl, sym, subst, rules}
use Rattle.std.specs.Prelude.{◌↔◌, Contains, IsSome, MatchOption, map}
use Rattle.std.specs.BTreeMap.{BTreeMap, IsOrdered, Updates, get}
use Rattle.std.specs.List.Sorted.{IsStrictlySortedBy}
use Rattle.std.proofs.lemmas.Bool.{false≢true, false_from_ne_true}
use Rattle.std.proofs.lemmas.List.Elements.{All-map, All-weaker}
use Rattle.std.proofs.lemmas.Map.Views.{All-found, btree_map_contains_key_iff}
use Rattle.netflow_five.specs.Engines.{Engine, engine_cmp, engine_of, has_sent, line_engine, sent_by}
use Rattle.netflow_five.specs.Losses.{IsEngineLine, IsLosses}
use Rattle.netflow_five.specs.Tallies.{Expects, HasTallied, IsTally, line_with}
use Rattle.netflow_five.specs.declared.engine_line.EngineLine.{EngineLine}
use Rattle.netflow_five.specs.declared.seq_mark.SeqMark.{SeqMark}
use Rattle.netflow_five.specs.declared.tally.Tally.{Tally}
use Rattle.netflow_five.proofs.Senders.{engine_cmp_total, exact_engines, has_sent-engine, occurs, same_engine, sends_some, sent_by-append, sent_by-one}

-- what stands at an engine that sent these
abbrev Comes : List SeqMark → Option Tally → Type 0
Comes sent at = MatchOption at (sent ≡ []) (IsTally sent)

-- the tally that stands there is that of what the engine has sent
pub tally_there : (sent : List SeqMark) (at : Option Tally) (tally : Tally) → Comes sent at → Some tally ≡ at → IsTally sent tally
tally_there sent at tally h there = subst (Comes sent) (sym there) h

-- nothing was sent where no tally stands
pub none_there : (sent : List SeqMark) (at : Option Tally) → Comes sent at → at ≡ None → sent ≡ []
none_there sent at h there = subst (Comes sent) there h

-- no datagram has no tallies
pub tallied_none : (at : Engine → Option Tally) → ((engine : Engine) → at engine ≡ None) → HasTallied [] at
unfolding sent_by
tallied_none at nothing engine = subst (Comes []) (sym (nothing engine)) refl

one_mark : (b : Bool) (sent : List SeqMark) (mark : SeqMark) (old new : Option Tally)
    → (b ≡ true → Comes (sent ++ mark ∷ []) new) → (b ≡ false → new ≡ old)
    → Comes sent old → Comes (sent ++ cond b (mark ∷ []) []) new
one_mark true sent mark old new here kept h = here refl
one_mark false sent mark old new here kept h = subst (λ (ms : List SeqMark). Comes ms new) (sym (append-nil sent)) (subst (Comes sent) (sym (kept refl)) h)

-- with one datagram more, its engine has the tally with it, and each other engine keeps its own
pub tallied_more : (marks : List SeqMark) (m n : BTreeMap Engine Tally) (mark : SeqMark) (tally : Tally)
    → IsTally (sent_by (engine_of mark) marks ++ mark ∷ []) tally
    → Updates engine_cmp m n (engine_of mark) (Some tally) → HasTallied marks (get engine_cmp m) → HasTallied (marks ++ mark ∷ []) (get engine_cmp n)
tallied_more marks m n mark tally is updates h engine =
    let own = λ (e : has_sent engine mark ≡ true).
    subst (λ (k : Engine). Comes (sent_by k marks ++ mark ∷ []) (get engine_cmp n k)) (sym ((has_sent-engine engine mark).0 e))
    (subst (Comes (sent_by (engine_of mark) marks ++ mark ∷ [])) (sym updates.1) is) in
    let kept = λ (e : has_sent engine mark ≡ false). updates.2 engine
    (false_from_ne_true _ (λ same. false≢true (sym e ∙ (has_sent-engine engine mark).1 (sym ((same_engine (engine_of mark) engine).0 same))))) in
    subst (λ (ms : List SeqMark). Comes ms (get engine_cmp n engine))
    (sym (sent_by-append engine marks (mark ∷ []) ∙ ap (λ (ms : List SeqMark). sent_by engine marks ++ ms) (sent_by-one engine mark)))
    (one_mark (has_sent engine mark) (sent_by engine marks) mark (get engine_cmp m engine) (get engine_cmp n engine) own kept (h engine))

some_sent : (sent : List SeqMark) (next : ℕ) → Expects sent next → sent ≢ []
some_sent sent next (before, last, whole, is) none = nil_push before last (sym whole ∙ none)
  where
    nil_push : (before : List SeqMark) (last : SeqMark) → before ++ last ∷ [] ≢ []
    nil_push [] last e = cc
    nil_push (mark ∷ before) last e = cc

-- the line of an engine with the tally of what it sent
pub line_from : (marks : List SeqMark) (engine : Engine) (tally : Tally) → IsTally (sent_by engine marks) tally → IsEngineLine marks (line_with engine tally)
line_from marks engine tally is = record { flows = is.flows; lost = is.lost; resets = is.resets }

-- the line of an entry
abbrev pub entry_line : Engine × Tally → EngineLine
entry_line entry = line_with entry.0 entry.1

engines_of : (entries : List (Engine × Tally)) → map line_engine (map entry_line entries) ≡ map (λ (e : Engine × Tally). e.0) entries
engines_of [] = refl
engines_of (entry ∷ entries) = ap (λ (es : List Engine). entry.0 ∷ es) (engines_of entries)

-- an engine that occurs has a tally, and one that has a tally occurs
has_tally : (sent : List SeqMark) (at : Option Tally) → Comes sent at → sent ≢ [] → IsSome at
has_tally sent None none some = absurd (some none)
has_tally sent (Some tally) is some = search rules

has_come : (sent : List SeqMark) (at : Option Tally) → Comes sent at → IsSome at → sent ≢ []
has_come sent None none there = absurd (search rules)
has_come sent (Some tally) is there = some_sent sent tally.next is.next

-- the tallies of all engines give their lines
pub losses_from : (marks : List SeqMark) (m : BTreeMap Engine Tally) → IsOrdered engine_cmp m
    → HasTallied marks (get engine_cmp m) → IsLosses marks (map entry_line m.entries)
losses_from marks m ordered h = record {
  rising = subst (IsStrictlySortedBy engine_cmp) (sym (engines_of m.entries)) ordered;
  whose = λ engine.
      let of_key = btree_map_contains_key_iff engine_cmp_total exact_engines m engine in
      subst (λ (es : List Engine). Contains es engine ↔ Contains (map engine_of marks) engine) (sym (engines_of m.entries)) (
        λ key. occurs engine marks (has_come (sent_by engine marks) (get engine_cmp m engine) (h engine) (of_key.1 key)),
        λ there. of_key.0 (has_tally (sent_by engine marks) (get engine_cmp m engine) (h engine) (sends_some engine marks there)),
      );
  each = All-map (IsEngineLine marks) entry_line m.entries
      (All-weaker (λ (e : Engine × Tally). get engine_cmp m e.0 ≡ Some e.1) (λ (e : Engine × Tally). IsEngineLine marks (entry_line e))
      (λ (e : Engine × Tally) (there : get engine_cmp m e.0 ≡ Some e.1). line_from marks e.0 e.1 (tally_there (sent_by e.0 marks) _ e.1 (h e.0) (sym there)))
      m.entries (All-found engine_cmp_total m ordered));
}
