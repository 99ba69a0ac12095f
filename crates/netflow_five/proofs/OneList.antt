-- Datagrams have one list of lines, and they have one.
use Rattle.std.specs.FinMap.{FinMap, contains_key-keys, empty, entries, entries_sorted, get, get-empty, get-insert, insert}
use Rattle.std.specs.FinMap.Entries.{below_all, is_sorted}
use Rattle.std.specs.BTreeSet.{BTreeSet, contains}
use Rattle.std.specs.Cmp.{eq_by_cmp_equiv}
use Rattle.std.specs.List.{AllByRecursion, list_any, sum_by}
use Rattle.std.specs.List.Sorted.{IsStrictlySortedBy}
use Rattle.std.specs.Map.{keys_of}
use Rattle.std.specs.Ordering.{eq_by_cmp, is_lt}
use Rattle.std.specs.Prelude.{◌↔◌, All, Contains, is_some, map, ◌||◌}
use Rattle.std.proofs.Common.{◌≡◌, ◌∙◌, Bool, true, false, cond, ◌&&◌, T, Option, Some, List, [], ◌∷◌, get_or, Less, Equal, Greater, Ordering, ap, refl, sym, subst}
use Rattle.std.proofs.lemmas.Bool.Decides.{same_from_decides}
use Rattle.std.proofs.lemmas.List.Elements.{All-head, All-map, All-tail}
use Rattle.std.proofs.lemmas.Map.Lookups.{btree_set_from_contains}
use Rattle.std.proofs.lemmas.Map.Views.{Contains-from_any, btree_set_contains_iff, list_any-from_Contains, tells_apart}
use Rattle.netflow_five.specs.Engines.{Engine, engine_cmp, engine_of, line_engine, sent_by}
use Rattle.netflow_five.specs.Gaps.{gaps, lost_among, resets_among}
use Rattle.netflow_five.specs.Losses.{IsEngineLine, IsLosses, Tells}
use Rattle.netflow_five.specs.declared.engine_line.EngineLine.{EngineLine}
use Rattle.netflow_five.specs.declared.seq_mark.SeqMark.{SeqMark}
use Rattle.netflow_five.proofs.Senders.{engine_cmp_total, exact_engines}

-- lists of rising engines that have the same engines are one
same_engines : (es fs : List Engine) → IsStrictlySortedBy engine_cmp es → IsStrictlySortedBy engine_cmp fs
    → ((e : Engine) → Contains es e ↔ Contains fs e) → es ≡ fs
same_engines es fs rising rising_too same =
    let s : BTreeSet Engine = record { keys = es } in
    let t : BTreeSet Engine = record { keys = fs } in
    let at = λ (e : Engine).
    let in_s = btree_set_contains_iff engine_cmp_total exact_engines s e in
    let in_t = btree_set_contains_iff engine_cmp_total exact_engines t e in
    same_from_decides (contains engine_cmp s e) (contains engine_cmp t e) (λ h. (same e).0 (in_s.0 h), λ h. in_s.1 ((same e).1 h)) (in_t.0, in_t.1) in
    btree_set_from_contains engine_cmp_total s t rising rising_too at exact_engines

same_line : (marks : List SeqMark) (x y : EngineLine) → line_engine x ≡ line_engine y → IsEngineLine marks x → IsEngineLine marks y → x ≡ y
same_line marks x y engine a b =
    let moved : Tells (sent_by (line_engine x) marks) y = subst (λ (e : Engine). Tells (sent_by e marks) y) (sym engine) b in
    let flows : x.flows ≡ y.flows = a.flows ∙ sym moved.flows in
    let lost : x.lost ≡ y.lost = a.lost ∙ sym moved.lost in
    let resets : x.resets ≡ y.resets = a.resets ∙ sym moved.resets in
    λ i. record { engine_type = (engine i).0; engine_id = (engine i).1; flows = flows i; lost = lost i; resets = resets i }

abbrev first_engine : Engine → List Engine → Engine
first_engine d [] = d
first_engine d (e ∷ es) = e

abbrev later_engines : List Engine → List Engine
later_engines [] = []
later_engines (e ∷ es) = es

same_lines : (marks : List SeqMark) (xs ys : List EngineLine) → map line_engine xs ≡ map line_engine ys
    → All (IsEngineLine marks) xs → All (IsEngineLine marks) ys → xs ≡ ys
same_lines marks [] [] e a b = refl
same_lines marks [] (y ∷ ys) e a b = absurd (cc)
same_lines marks (x ∷ xs) [] e a b = absurd (cc)
same_lines marks (x ∷ xs) (y ∷ ys) e a b =
    let engine : line_engine x ≡ line_engine y = ap (first_engine (line_engine x)) e in
    let later : map line_engine xs ≡ map line_engine ys = ap later_engines e in
    let first : x ≡ y = same_line marks x y engine (All-head (IsEngineLine marks) x xs a) (All-head (IsEngineLine marks) y ys b) in
    let rest : xs ≡ ys = same_lines marks xs ys later (All-tail (IsEngineLine marks) x xs a) (All-tail (IsEngineLine marks) y ys b) in
    λ i. first i ∷ rest i

-- datagrams have one list of lines at most
pub losses_unique : (marks : List SeqMark) (lines others : List EngineLine) → IsLosses marks lines → IsLosses marks others → lines ≡ others
losses_unique marks lines others a b =
    let same : (e : Engine) → Contains (map line_engine lines) e ↔ Contains (map line_engine others) e =
    λ e. (λ h. (b.whose e).1 ((a.whose e).0 h), λ h. (a.whose e).1 ((b.whose e).0 h)) in
    same_lines marks lines others (same_engines (map line_engine lines) (map line_engine others) a.rising b.rising same) a.each b.each

-- the engines that have sent datagrams
abbrev seen : List SeqMark → FinMap engine_cmp (Unit {0})
seen [] = empty
seen (mark ∷ marks) = insert (seen marks) (engine_of mark) tt

is_some-or : (b : Bool) (o : Option (Unit {0})) → is_some (cond b (Some tt) o) ≡ (b || is_some o)
is_some-or true o = refl
is_some-or false o = refl

seen_at : (marks : List SeqMark) (e : Engine) → is_some (get (seen marks) e) ≡ list_any (eq_by_cmp engine_cmp e) (map engine_of marks)
seen_at [] e = ap is_some (get-empty engine_cmp e)
seen_at (mark ∷ marks) e =
    ap is_some (get-insert engine_cmp_total (seen marks) (engine_of mark) tt e) ∙ is_some-or (eq_by_cmp engine_cmp e (engine_of mark)) (get (seen marks) e)
    ∙ ap (λ b. eq_by_cmp engine_cmp e (engine_of mark) || b) (seen_at marks e)

-- an engine is among keys exactly if a test of them finds it
any_engine : (es fs : List Engine) (e : Engine) → list_any (eq_by_cmp engine_cmp e) es ≡ list_any (eq_by_cmp engine_cmp e) fs
    → Contains es e → Contains fs e
any_engine es fs e same h =
    Contains-from_any (tells_apart exact_engines) e fs (sym same ∙ list_any-from_Contains (eq_by_cmp_equiv engine_cmp_total) e es h)

both_hold : (a b : Bool) → T (a && b) → T a × T b
both_hold true b h = (tt, h)
both_hold false b h = absurd h

is_less : (order : Ordering) → T (is_lt order) → order ≡ Less
is_less Less h = refl
is_less Equal h = absurd h
is_less Greater h = absurd h

-- an entry of the engines that were seen
abbrev Seen : Type 0
Seen = Engine × Unit {0}

above : (e : Engine) (entries : List Seen) → T (below_all engine_cmp e entries) → AllByRecursion (λ other. engine_cmp e other ≡ Less) (keys_of entries)
above e [] h = tt
above e (entry ∷ entries) h =
    let parts = both_hold (is_lt (engine_cmp e entry.0)) (below_all engine_cmp e entries) h in
    (is_less (engine_cmp e entry.0) parts.0, above e entries parts.1)

rising : (entries : List Seen) → T (is_sorted engine_cmp entries) → IsStrictlySortedBy engine_cmp (keys_of entries)
unfolding IsStrictlySortedBy
rising [] h = tt
rising (entry ∷ entries) h =
    let parts = both_hold (below_all engine_cmp entry.0 entries) (is_sorted engine_cmp entries) h in
    (above entry.0 entries parts.0, rising entries parts.1)

-- the line of an engine
abbrev line_at : List SeqMark → Engine → EngineLine
line_at marks e = record {
  engine_type = e.0;
  engine_id = e.1;
  flows = sum_by (λ mark. mark.count) (sent_by e marks);
  lost = lost_among (gaps (sent_by e marks));
  resets = resets_among (gaps (sent_by e marks));
}

line_tells : (marks : List SeqMark) (e : Engine) → IsEngineLine marks (line_at marks e)
line_tells marks e = record { flows = refl; lost = refl; resets = refl }

engines_at : (marks : List SeqMark) (es : List Engine) → map line_engine (map (line_at marks) es) ≡ es
engines_at marks [] = refl
engines_at marks (e ∷ es) = ap (λ (fs : List Engine). e ∷ fs) (engines_at marks es)

-- and they have one
pub some_losses : (marks : List SeqMark) → (lines : List EngineLine) × IsLosses marks lines
some_losses marks =
    let es : List Engine = keys_of (entries (seen marks)) in
    let found = λ (e : Engine). sym (contains_key-keys (seen marks) e) ∙ seen_at marks e in
    let lines : List EngineLine = map (line_at marks) es in
    let same : map line_engine lines ≡ es = engines_at marks es in (
      lines,
      record {
        rising = subst (IsStrictlySortedBy engine_cmp) (sym same) (rising (entries (seen marks)) (entries_sorted (seen marks)));
        whose = λ e. subst (λ (fs : List Engine). Contains fs e ↔ Contains (map engine_of marks) e) (sym same)
            (any_engine es (map engine_of marks) e (found e), any_engine (map engine_of marks) es e (sym (found e)));
        each = All-map (IsEngineLine marks) (line_at marks) es (λ k d below. line_tells marks (get_or es k d));
      },
    )
