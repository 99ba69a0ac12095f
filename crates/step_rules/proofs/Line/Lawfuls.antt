-- What a seat's stands stay, as more is seen and stands are added.
use Rattle.std.proofs.Common.{◌≡◌, ◌≢◌, ◌∙◌, ℕ, ◌+◌, ◌≤◌, suc, zero, Bool, true, false, not, ◌&&◌, cond, eqb, ne_eqb, List, [], ◌∷◌, ◌++◌, Option, None}
use Rattle.std.proofs.Common.{length, take, map, get_or, AllPairs}
use Rattle.std.proofs.Common.{append-nil, length-append, refl, sym, ap, subst, arith, ⊎_elim}
use Rattle.std.proofs.lemmas.Bool.{and_right, false_from_ne_true, false≢true}
use Rattle.std.proofs.lemmas.List.{take-append-le}
use Rattle.std.proofs.lemmas.List.Elements.{filter-append}
use Rattle.std.proofs.Math.Seq.{take-append-add}
use mathlib.Core.List.{map-append}
use mathlib.Core.Option.{some, some-injective, some-ne-none}
use lib.ListN.{get_elem?}
use Rattle.atomic_table.proofs.Lists.{at_longer, at_last}
use Rattle.seat_history.proofs.Replies.{reply_not_full}
use Rattle.seat_history.specs.Change.{is_change}
use Rattle.seat_history.specs.Contents.{Contents, blank}
use Rattle.seat_history.specs.History.{contents_from, state_at}
use Rattle.seat_history.specs.Object.{MayCall}
use Rattle.seat_history.specs.Step.{held_after, reply_to}
use Rattle.seat_history.specs.declared.call.Call.{Call}
use Rattle.seat_history.specs.declared.call.Call.TheVariants.{Hold, Look, Release}
use Rattle.seat_history.specs.declared.entry.Entry.{Entry}
use Rattle.seat_history.specs.declared.reply.Reply.{Reply}
use Rattle.seat_history.specs.declared.reply.Reply.TheVariants.{Full}
use Rattle.step_rules.proofs.Line.Kept.{kept_after, kept_more}
use Rattle.step_rules.proofs.Numbers.Sets.{has-append, has_left, has_right}
use Rattle.step_rules.specs.History.{IsThere, NoneBy, entries_by}
use Rattle.step_rules.specs.Lawful.{Below, IsLegal, IsReply, IsRight, Lawful, entry_of, held_by, held_from, is_full, made_by}
use Rattle.step_rules.specs.Stock.{KeepsStock}
use Rattle.step_rules.specs.Views.{changing, entry, number, reading, stock}
use Rattle.step_rules.specs.World.{has}
use Rattle.step_rules.specs.declared.plan.Plan.{Plan}
use Rattle.step_rules.specs.declared.view.Stand.{Stand}
use Rattle.step_rules.specs.declared.view.View.{View}
use Rattle.step_rules.proofs.Numbers.Places.{at_append, at_below, at_take, at_there, there_at}
use Rattle.seat_history.proofs.Histories.{state_at-append}

pairs_append : {A : Type 0} (R : A → A → Type 0) (l m : List A) → AllPairs R l → AllPairs R m
    → ((i j : ℕ) (a b : A) → get_elem? l i ≡ some a → get_elem? m j ≡ some b → R a b) → AllPairs R (l ++ m)
pairs_append {A} R l m first second across i j d lt within =
    let x : A = get_or (l ++ m) i d in
    let y : A = get_or (l ++ m) j d in
    let high = at_there (l ++ m) j d within in
    ⊎_elim
    (λ p. ⊎_elim
    (λ q. let under = at_below l j y q in subst (λ (z : A). R z y) (there_at l i x d p) (subst (λ (z : A). R (get_or l i d) z) (there_at l j y d q) (first i j d lt under)))
    (λ q. across i q.0 x y p q.2)
    (at_append l m j y high))
    (λ p. ⊎_elim
    (λ q. let under = at_below l j y q in let n : ℕ = p.0 in let e : i ≡ length l + n = p.1 in absurd (omega arith))
    (λ q. let n : ℕ = p.0 in let e : i ≡ length l + n = p.1 in let k : ℕ = q.0 in let f : j ≡ length l + k = q.1 in let under = at_below m k y q.2 in
    subst (λ (z : A). R z y) (there_at m n x d p.2) (subst (λ (z : A). R (get_or m n d) z) (there_at m k y d q.2) (second n k d (omega arith) under)))
    (at_append l m j y high))
    (at_append l m i x (at_there (l ++ m) i d (omega arith)))

-- all these stands are at places that were seen
pub Placed : List Entry → List Stand → Type 0
Placed a ss = (i : ℕ) (s : Stand) → get_elem? ss i ≡ some s → s.place ≤ length a

-- none of these stands is the caller's
pub Others : ℕ → List Stand → Type 0
Others x ss = (i : ℕ) (s : Stand) → get_elem? ss i ≡ some s → s.by ≢ x

pub held_from-append : (a : List Entry) (x : ℕ) (held : Option (List ℕ)) (ss ts : List Stand) → held_from a x held (ss ++ ts) ≡ held_from a x (held_from a x held ss) ts
held_from-append a x held [] ts = refl
held_from-append a x held (s ∷ ss) ts = held_from-append a x (cond (eqb s.by x) (held_after (state_at a s.place) held s.call) held) ss ts

pub held_more : (a r : List Entry) (x : ℕ) (held : Option (List ℕ)) (ss : List Stand) → Placed a ss → held_from (a ++ r) x held ss ≡ held_from a x held ss
unfolding Placed
held_more a r x held [] placed = refl
held_more a r x held (s ∷ ss) placed =
    ap (λ (c : Contents). held_from (a ++ r) x (cond (eqb s.by x) (held_after c held s.call) held) ss) (state_at-append a r s.place (placed 0 s refl))
    ∙ held_more a r x (cond (eqb s.by x) (held_after (state_at a s.place) held s.call) held) ss (λ i t at. placed (suc i) t at)

pub held_else : (a : List Entry) (x : ℕ) (held : Option (List ℕ)) (ss : List Stand) → Others x ss → held_from a x held ss ≡ held
unfolding Others
held_else a x held [] others = refl
held_else a x held (s ∷ ss) others =
    ap (λ b. held_from a x (cond b (held_after (state_at a s.place) held s.call) held) ss) (ne_eqb s.by x (others 0 s refl))
    ∙ held_else a x held ss (λ i t at. others (suc i) t at)

made_else : (x : ℕ) (ss : List Stand) → Others x ss → made_by x ss ≡ []
unfolding Others
made_else x [] others = refl
made_else x (s ∷ ss) others = ap (λ b. cond b (s ∷ made_by x ss) (made_by x ss)) (and_right s.changes (eqb s.by x) (ne_eqb s.by x (others 0 s refl)))
    ∙ made_else x ss (λ i t at. others (suc i) t at)

none_by : (x : ℕ) (r : List Entry) → NoneBy x r → entries_by x r ≡ []
none_by x [] none = refl
none_by x (e ∷ r) none = ap (λ b. cond b (e ∷ entries_by x r) (entries_by x r)) (ne_eqb e.caller x none.0) ∙ none_by x r none.1

entries_more : (x : ℕ) (a r : List Entry) → NoneBy x r → entries_by x (a ++ r) ≡ entries_by x a
entries_more x a r none = filter-append (λ (e : Entry). eqb e.caller x) a r ∙ (ap (λ l. entries_by x a ++ l) (none_by x r none) ∙ append-nil (entries_by x a))

-- a right stand stays right as more is seen
right_more : (plan : Plan) (a r : List Entry) (before : List Stand) (s : Stand) → Placed a before → IsRight plan a before s → IsRight plan (a ++ r) before s
right_more plan a r before s placed right =
    let place = right.place in
    let same = state_at-append a r s.place place in
    record {
      place = omega (arith, length-append a r);
      legal = subst (λ (h : Option (List ℕ)). IsLegal plan h s.call) (sym (held_more a r s.by None before placed)) right.legal;
      reply = subst (λ (c : List Entry). IsReply plan s.stock (contents_from blank c) c (held_by (a ++ r) s.by before) s.call s.reply) (sym (take-append-le s.place a r place))
          (subst (λ (h : Option (List ℕ)). IsReply plan s.stock (state_at a s.place) (take s.place a) h s.call s.reply) (sym (held_more a r s.by None before placed)) right.reply);
      changes = subst (λ (c : Contents). s.changes ≡ (is_change c s.call && not (is_full s.reply))) (sym same) right.changes;
      entry = λ c. at_longer a r s.place (entry_of s) (right.entry c);
    }

pub placed_in : {plan : Plan} {ns : List ℕ} {a : List Entry} {ss : List Stand} → Lawful plan ns a ss → Placed a ss
unfolding Placed
placed_in l i s at = (l.right i s at).place

placed_before : (a : List Entry) (ss : List Stand) (n : ℕ) → Placed a ss → Placed a (take n ss)
unfolding Placed
placed_before a ss n placed i s at = placed i s (at_take ss n i s at)

-- more is seen, and nothing of it is of the seat's numbers
pub lawful_more : {plan : Plan} {ns : List ℕ} {a : List Entry} {ss : List Stand} (r : List Entry) → ((x : ℕ) → has ns x ≡ true → NoneBy x r) → Lawful plan ns a ss
    → Lawful plan ns (a ++ r) ss
lawful_more {plan = plan} {a = a} {ss = ss} r none l = record {
  right = λ i s at. right_more plan a r (take i ss) s (placed_before a ss i (placed_in l)) (l.right i s at);
  by = l.by;
  rising = l.rising;
  made = λ x h. entries_more x a r (none x h) ∙ l.made x h;
  kept = λ i s at. kept_more plan a r (take i ss) s (λ j t there. (l.right j t (at_take ss i j t there)).place) (l.kept i s at);
  among = l.among;
}

made_append : (x : ℕ) (ss ts : List Stand) → map entry_of (made_by x (ss ++ ts)) ≡ map entry_of (made_by x ss) ++ map entry_of (made_by x ts)
made_append x ss ts = ap (map entry_of) (filter-append (λ (s : Stand). s.changes && eqb s.by x) ss ts) ∙ map-append entry_of (made_by x ss) (made_by x ts)

-- what holds of each stand after all that stand before it holds so of stands added after others
each_append : (P : List Stand → Stand → Type 0) (ss ts : List Stand) → ((i : ℕ) (s : Stand) → get_elem? ss i ≡ some s → P (take i ss) s)
    → ((k : ℕ) (t : Stand) → get_elem? ts k ≡ some t → P (ss ++ take k ts) t)
    → (i : ℕ) (s : Stand) → get_elem? (ss ++ ts) i ≡ some s → P (take i (ss ++ ts)) s
each_append P ss ts first second i s at = ⊎_elim
    (λ h. let low = at_below ss i s h in subst (λ (b : List Stand). P b s) (sym (take-append-le i ss ts (omega arith))) (first i s h))
    (λ h. subst (λ (n : ℕ). P (take n (ss ++ ts)) s) (sym h.1) (subst (λ (b : List Stand). P b s) (sym (take-append-add ss ts h.0)) (second h.0 s h.2)))
    (at_append ss ts i s at)

all_append : (Q : Stand → Type 0) (ss ts : List Stand) → ((i : ℕ) (s : Stand) → get_elem? ss i ≡ some s → Q s) → ((i : ℕ) (s : Stand) → get_elem? ts i ≡ some s → Q s)
    → (i : ℕ) (s : Stand) → get_elem? (ss ++ ts) i ≡ some s → Q s
all_append Q ss ts first second i s at = ⊎_elim (λ h. first i s h) (λ h. second h.0 s h.2) (at_append ss ts i s at)

-- a list of one
one_at : {A : Type 0} (a : A) (k : ℕ) (b : A) → get_elem? (a ∷ []) k ≡ some b → (k ≡ 0) × (a ≡ b)
one_at a zero b e = (refl, some-injective a b e)
one_at a (suc k) b e = absurd (some-ne-none b (sym e))

each_push : (P : List Stand → Stand → Type 0) (ss : List Stand) (s : Stand) → ((i : ℕ) (t : Stand) → get_elem? ss i ≡ some t → P (take i ss) t) → P ss s
    → (i : ℕ) (t : Stand) → get_elem? (ss ++ s ∷ []) i ≡ some t → P (take i (ss ++ s ∷ [])) t
each_push P ss s each one = each_append P ss (s ∷ []) each (λ k t at. let p = one_at s k t at in
    subst (λ (n : ℕ). P (ss ++ take n (s ∷ [])) t) (sym p.0)
    (subst (λ (z : Stand). P (ss ++ []) z) p.1 (subst (λ (b : List Stand). P b s) (sym (append-nil ss)) one)))

all_push : (Q : Stand → Type 0) (ss : List Stand) (s : Stand) → ((i : ℕ) (t : Stand) → get_elem? ss i ≡ some t → Q t) → Q s
    → (i : ℕ) (t : Stand) → get_elem? (ss ++ s ∷ []) i ≡ some t → Q t
all_push Q ss s each one = all_append Q ss (s ∷ []) each (λ k t at. subst Q (one_at s k t at).1 one)

-- the stand's numbers are among these
abbrev Among : List ℕ → Stand → Type 0
Among ns s = (x : ℕ) → has s.numbers x ≡ true → has ns x ≡ true

rising_push : (ss : List Stand) (s : Stand) → AllPairs Below ss → ((i : ℕ) (t : Stand) → get_elem? ss i ≡ some t → Below t s) → AllPairs Below (ss ++ s ∷ [])
rising_push ss s rising above = pairs_append Below ss (s ∷ []) rising (λ i j d lt within. absurd (omega arith))
    (λ i j t u p q. subst (λ (z : Stand). Below t z) (one_at s j u q).1 (above i t p))

-- a stand that is no change
pub lawful_stand : {plan : Plan} {ns : List ℕ} {a : List Entry} {ss : List Stand} (s : Stand) → Lawful plan ns a ss → has ns s.by ≡ true → s.changes ≡ false → IsRight plan a ss s
    → ((i : ℕ) (t : Stand) → get_elem? ss i ≡ some t → Below t s) → KeepsStock plan a ss s → Among ns s
    → Lawful plan ns a (ss ++ s ∷ [])
lawful_stand {plan = plan} {ns = ns} {a = a} {ss = ss} s l by still right above kept among = record {
  right = each_push (IsRight plan a) ss s l.right right;
  by = all_push (λ (t : Stand). has ns t.by ≡ true) ss s l.by by;
  rising = rising_push ss s l.rising above;
  made = λ x h. l.made x h ∙ sym (made_append x ss (s ∷ [])
      ∙ (ap (λ (b : Bool). map entry_of (made_by x ss) ++ map entry_of (cond (b && eqb s.by x) (s ∷ []) [])) still ∙ append-nil (map entry_of (made_by x ss))));
  kept = each_push (KeepsStock plan a) ss s l.kept kept;
  among = all_push (Among ns) ss s l.among among;
}

-- a stand at the end of what was seen, or later, comes after all
below_end : {plan : Plan} {ns : List ℕ} {a : List Entry} {ss : List Stand} (t : Stand) → Lawful plan ns a ss → length a ≤ t.place → (i : ℕ) (s : Stand) → get_elem? ss i ≡ some s
    → Below s t
below_end {a = a} t l late i s at _ =
    let right = l.right i s at in
    let place = right.place in
    (omega arith, λ c. let low = at_below a s.place (entry_of s) (right.entry c) in omega arith)

is_reply : (plan : Plan) (stock : ℕ) (c : Contents) (log : List Entry) (held : Option (List ℕ)) (call : Call) (reply : Reply) → reply_to c held call ≡ reply
    → ((need free : ℕ) → reply ≢ Full need free) → IsReply plan stock c log held call reply
is_reply plan stock c log held call (Full need free) e other = absurd (other need free refl)
is_reply plan stock c log held call _ e other = e

pub not_full : (reply : Reply) → ((need free : ℕ) → reply ≢ Full need free) → is_full reply ≡ false
not_full (Full need free) other = absurd (other need free refl)
not_full _ other = refl

-- a change may be made whatever is held
change_may : (c : Contents) (held : Option (List ℕ)) (call : Call) → is_change c call ≡ true → MayCall held call
change_may c held (Hold reg) h = absurd (false≢true h)
change_may c held Look h = absurd (false≢true h)
change_may c held Release h = absurd (false≢true h)
change_may c held _ h = tt

-- the call is right as the last of the history
right_last : (plan : Plan) (v : View) (log : List Entry) (call : Call) → Placed log v.stands → IsThere plan call → is_change (state_at log (length log)) call ≡ true
    → IsRight plan (log ++ entry (number v) call ∷ []) v.stands (changing log call v)
right_last plan v log call placed there changes =
    let es : List Entry = log ++ entry (number v) call ∷ [] in
    let c : Contents = state_at log (length log) in
    let held : Option (List ℕ) = held_by log (number v) v.stands in
    let reply : Reply = reply_to c held call in
    let other : (need free : ℕ) → reply ≢ Full need free = reply_not_full c held call in
    let same : state_at es (length log) ≡ c = state_at-append log (entry (number v) call ∷ []) (length log) (omega arith) in
    let kept : held_by es (number v) v.stands ≡ held = held_more log (entry (number v) call ∷ []) (number v) None v.stands placed in
    record {
      place = omega (arith, length-append log (entry (number v) call ∷ []));
      legal = record { there = there; may = change_may c (held_by es (number v) v.stands) call changes };
      reply = subst (λ (d : Contents). IsReply plan (stock v) d (take (length log) es) (held_by es (number v) v.stands) call reply) (sym same)
          (subst (λ (h : Option (List ℕ)). IsReply plan (stock v) c (take (length log) es) h call reply) (sym kept) (is_reply plan (stock v) c (take (length log) es) held call reply refl other));
      changes = sym (ap (λ (d : Contents). is_change d call && not (is_full reply)) same
          ∙ (ap (λ b. b && not (is_full reply)) changes ∙ ap (λ b. true && not b) (not_full reply other)));
      entry = λ _. at_last log (entry (number v) call) (length log) refl;
    }

-- the seat's call is the last of the history
pub lawful_change : (plan : Plan) (v : View) (log : List Entry) (call : Call) → Lawful plan v.numbers log v.stands → has v.numbers (number v) ≡ true
    → IsThere plan call → is_change (state_at log (length log)) call ≡ true
    → KeepsStock plan (log ++ entry (number v) call ∷ []) v.stands (changing log call v)
    → Lawful plan v.numbers (log ++ entry (number v) call ∷ []) (v.stands ++ changing log call v ∷ [])
lawful_change plan v log call l by there changes kept =
    let placed = placed_in l in
    record {
      right = each_push (IsRight plan (log ++ entry (number v) call ∷ [])) v.stands (changing log call v)
          (λ i t at. right_more plan log (entry (number v) call ∷ []) (take i v.stands) t (placed_before log v.stands i placed) (l.right i t at))
          (right_last plan v log call placed there changes);
      by = all_push (λ (t : Stand). has v.numbers t.by ≡ true) v.stands (changing log call v) l.by by;
      rising = rising_push v.stands (changing log call v) l.rising (below_end (changing log call v) l (omega arith));
      made = λ x h. filter-append (λ (e : Entry). eqb e.caller x) log (entry (number v) call ∷ [])
          ∙ (ap (λ z. z ++ entries_by x (entry (number v) call ∷ [])) (l.made x h)
          ∙ (ap (λ z. map entry_of (made_by x v.stands) ++ z) (one (eqb (number v) x))
          ∙ sym (made_append x v.stands (changing log call v ∷ []))));
      kept = each_push (KeepsStock plan (log ++ entry (number v) call ∷ [])) v.stands (changing log call v)
          (λ i t at. kept_more plan log (entry (number v) call ∷ []) (take i v.stands) t (λ j u there. (l.right j u (at_take v.stands i j u there)).place) (l.kept i t at))
          kept;
      among = all_push (Among v.numbers) v.stands (changing log call v) l.among (λ x h. h);
    }
  where
    one : (t : Bool) → cond t (entry (number v) call ∷ []) [] ≡ map entry_of (cond (true && t) (changing log call v ∷ []) [])
    one true = refl
    one false = refl

pub others_from : {plan : Plan} {ns : List ℕ} {a : List Entry} {ss : List Stand} (x : ℕ) → Lawful plan ns a ss → (has ns x ≡ true → ⊥) → Others x ss
unfolding Others
others_from {ns = ns} x l none i s at same = none (subst (λ n. has ns n ≡ true) same (l.by i s at))

-- stands of other callers before make no difference
right_after : (plan : Plan) (a : List Entry) (ss before : List Stand) (s : Stand) → Others s.by ss → IsRight plan a before s → IsRight plan a (ss ++ before) s
right_after plan a ss before s others right = record {
  place = right.place;
  legal = subst (λ (h : Option (List ℕ)). IsLegal plan h s.call) same right.legal;
  reply = subst (λ (h : Option (List ℕ)). IsReply plan s.stock (state_at a s.place) (take s.place a) h s.call s.reply) same right.reply;
  changes = right.changes;
  entry = right.entry;
}
  where
    same : held_by a s.by before ≡ held_by a s.by (ss ++ before)
    same = sym (held_from-append a s.by None ss before ∙ ap (λ h. held_from a s.by h before) (held_else a s.by None ss others))

-- two plan that have seen the same
pub lawful_join : {plan : Plan} {ns ms : List ℕ} {a : List Entry} {ss ts : List Stand} → Lawful plan ns a ss → Lawful plan ms a ts
    → ((x : ℕ) → has ns x ≡ true → has ms x ≡ true → ⊥)
    → Lawful plan (ns ++ ms) a (ss ++ ts)
lawful_join {plan = plan} {ns = ns} {ms = ms} {a = a} {ss = ss} {ts = ts} l m apart = record {
  right = each_append (IsRight plan a) ss ts l.right (λ k t at. right_after plan a ss (take k ts) t (others_from t.by l (λ h. apart t.by h (m.by k t at))) (m.right k t at));
  by = all_append (λ (t : Stand). has (ns ++ ms) t.by ≡ true) ss ts (λ i s at. has_left ns ms s.by (l.by i s at)) (λ i t at. has_right ns ms t.by (m.by i t at));
  rising = pairs_append Below ss ts l.rising m.rising (λ i j s t p q same. absurd (apart t.by (subst (λ n. has ns n ≡ true) same (l.by i s p)) (m.by j t q)));
  made = λ x h. ⊎_elim
      (λ p. l.made x p ∙ sym (made_append x ss ts
      ∙ (ap (λ z. map entry_of (made_by x ss) ++ map entry_of z) (made_else x ts (others_from x m (apart x p))) ∙ append-nil (map entry_of (made_by x ss)))))
      (λ p. m.made x p ∙ sym (made_append x ss ts
      ∙ ap (λ z. map entry_of z ++ map entry_of (made_by x ts)) (made_else x ss (others_from x l (λ q. apart x q p)))))
      (has-append ns ms x h);
  kept = each_append (KeepsStock plan a) ss ts l.kept (λ k t at. kept_after plan a ss (take k ts) t
      (λ i s p. false_from_ne_true (has t.numbers s.by) (λ h. apart s.by (l.by i s p) (m.among k t at s.by h))) (m.kept k t at));
  among = all_append (Among (ns ++ ms)) ss ts (λ i s at x h. has_left ns ms x (l.among i s at x h)) (λ i t at x h. has_right ns ms x (m.among i t at x h));
}

pub above_end : (plan : Plan) (ns : List ℕ) (a : List Entry) (ss : List Stand) (q : ℕ) (call : Call) (reply : Reply) (v : View) → Lawful plan ns a ss → length a ≤ q → (i : ℕ) (s : Stand)
    → get_elem? ss i ≡ some s → Below s (reading q call reply v)
above_end plan ns a ss q call reply v l late = below_end (reading q call reply v) l late
