-- All callers' stands in one line are a history of the object of one thread.
use Rattle.std.proofs.Common.{◌≡◌, ◌≢◌, ◌∙◌, ℕ, ◌+◌, ◌<◌, ◌≤◌, suc, zero, Bool, true, false, not, ◌&&◌, cond, eqb, ne_eqb, eq-eqb, List, [], ◌∷◌}
use Rattle.std.proofs.Common.{◌++◌, Option, None, length, take, filter}
use Rattle.std.proofs.Common.{map, append-nil, append_assoc, length-append, take_all, refl, sym, ap, subst, arith, ◌⊎◌, ⊎_elim}
use Rattle.std.proofs.lemmas.Bool.{eqb-true, cases_eq, false≢true, and_parts, not-true}
use Rattle.std.proofs.lemmas.List.Elements.{filter-append}
use Rattle.std.proofs.lemmas.List.{length-map}
use mathlib.Core.Option.{some, some-injective, some-ne-none}
use lib.ListN.{get_elem?}
use Rattle.seat_history.proofs.Changed.{idle}
use Rattle.seat_history.proofs.Histories.{contents_from-append}
use Rattle.seat_history.specs.Change.{is_change}
use Rattle.seat_history.specs.Contents.{Contents, blank}
use Rattle.seat_history.specs.History.{contents_from, state_at}
use Rattle.seat_history.specs.Object.{Object, blank_object, object_after}
use Rattle.seat_history.specs.Step.{contents_after, held_after}
use Rattle.seat_history.specs.declared.call.Call.{Call}
use Rattle.seat_history.specs.declared.entry.Entry.{Entry}
use Rattle.seat_history.specs.declared.reply.Reply.{Reply}
use Rattle.seat_history.specs.declared.reply.Reply.TheVariants.{Full}
use Rattle.step_rules.specs.History.{IsHistory, NoneBy, entries_by}
use Rattle.step_rules.specs.Lawful.{Below, IsLegal, IsReply, Lawful, entry_of, held_by, held_from, is_full, made_by}
use Rattle.step_rules.specs.Line.{InOneLine, Replays, after_stand, after_stands, log_after, entry_at, line_before, line_of, readings, readings_below, stands_by}
use Rattle.step_rules.specs.Stock.{AreOfOne, StocksAre}
use Rattle.step_rules.specs.World.{has}
use Rattle.step_rules.specs.declared.plan.Plan.{Plan}
use Rattle.step_rules.specs.declared.view.Stand.{Stand}
use Rattle.step_rules.proofs.Line.Kept.{stocks_one}
use Rattle.step_rules.proofs.Line.Ordering.{Each, Pairs, Within, at_most_one, below_place, both_false, by_whole, each_append, each_from, each_map, filter_kept, filter_same, is_made, lt_under}
use Rattle.step_rules.proofs.Line.Ordering.{next_place, none_before, on_place, pairs_from, pairs_map, reading_by, under}
use Rattle.step_rules.proofs.Numbers.Places.{at_below}
use Rattle.step_rules.proofs.Line.Records.{change_holds}

-- the entry at a place is one stand

-- a stand that changes is the entry at its place
abbrev Told : List Entry → Stand → Type 0
Told history s = s.changes ≡ true → get_elem? history s.place ≡ some (entry_of s)

there_is : {A : Type 0} (l : List A) (i : ℕ) → i < length l → (a : A) × (get_elem? l i ≡ some a)
there_is [] i h = absurd (omega arith)
there_is (a ∷ l) zero h = (a, refl)
there_is (a ∷ l) (suc i) h = there_is l i (omega arith)

pub take_one : {A : Type 0} (l : List A) (i : ℕ) (a : A) → get_elem? l i ≡ some a → take (suc i) l ≡ take i l ++ a ∷ []
take_one [] i a e = absurd (some-ne-none a (sym e))
take_one (x ∷ l) zero a e = ap (λ z. z ∷ []) (some-injective x a e)
take_one (x ∷ l) (suc i) a e = ap (λ z. x ∷ z) (take_one l i a e)

made_whose : (x : ℕ) (s : Stand) → is_made x s ≡ true → s.by ≡ x
made_whose x s h = eqb-true s.by x (and_parts s.changes (eqb s.by x) h).1

made_next : (x q : ℕ) (stands : List Stand) → Pairs Below stands
    → length (filter (below_place (is_made x) (suc q)) stands) ≡ length (filter (below_place (is_made x) q) stands) + length (filter (on_place (is_made x) q) stands)
made_next x q stands rising = ap length (sym (next_place (is_made x) q x stands (made_whose x) rising))
    ∙ length-append (filter (below_place (is_made x) q) stands) (filter (on_place (is_made x) q) stands)

entries_next : (x q : ℕ) (history : List Entry) (e : Entry) → get_elem? history q ≡ some e
    → length (entries_by x (take (suc q) history)) ≡ length (entries_by x (take q history)) + length (entries_by x (e ∷ []))
entries_next x q history e at = ap (λ z. length (entries_by x z)) (take_one history q e at)
    ∙ (ap length (filter-append (λ (e : Entry). eqb e.caller x) (take q history) (e ∷ [])) ∙ length-append (entries_by x (take q history)) (entries_by x (e ∷ [])))

-- a caller's change at a place is one stand at most
made_once : (x q : ℕ) (history : List Entry) (stands : List Stand) → Pairs Below stands → Each (Told history) stands
    → (filter (on_place (is_made x) q) stands ≡ []) ⊎ ((s : Stand) × (filter (on_place (is_made x) q) stands ≡ s ∷ []) × (on_place (is_made x) q s ≡ true) × Told history s)
made_once x q history stands rising told = at_most_one (Told history) (on_place (is_made x) q) stands told
    (pairs_map Below (λ (a b : Stand). on_place (is_made x) q a ≡ true → on_place (is_made x) q b ≡ false) stands (λ a b below h.
    let f = and_parts (is_made x a) (eqb a.place q) h in
    let c = (and_parts a.changes (eqb a.by x) f.0).0 in
    let by = made_whose x a f.0 in
    let place : a.place ≡ q = eqb-true a.place q f.1 in
    both_false (is_made x b) (eqb b.place q) (λ g. ne_eqb b.place q (λ same. let l = (below (by ∙ sym (made_whose x b g))).1 c in absurd (omega arith))))
    rising)

-- that stand is the caller's, at the place, and the entry there
made_is : (x q : ℕ) (history : List Entry) (s : Stand) → on_place (is_made x) q s ≡ true → Told history s
    → (s.changes ≡ true) × (s.by ≡ x) × (s.place ≡ q) × (get_elem? history q ≡ some (entry_of s))
made_is x q history s h told =
    let f = and_parts (is_made x s) (eqb s.place q) h in
    let g = and_parts s.changes (eqb s.by x) f.0 in
    let place = eqb-true s.place q f.1 in
    (g.0, eqb-true s.by x g.1, place, subst (λ n. get_elem? history n ≡ some (entry_of s)) place (told g.0))

count_step : (x q : ℕ) (history : List Entry) (stands : List Stand) → q < length history → Pairs Below stands → Each (Told history) stands
    → length (filter (below_place (is_made x) (suc q)) stands) + length (entries_by x (take q history))
    ≤ length (filter (below_place (is_made x) q) stands) + length (entries_by x (take (suc q) history))
count_step x q history stands l rising told = ⊎_elim
    (λ h. let e = there_is history q l in
    let n = made_next x q stands rising in
    let m = entries_next x q history e.0 e.1 in
    let z : length (filter (on_place (is_made x) q) stands) ≡ 0 = ap length h in
    omega arith)
    (λ h. let s : Stand = h.0 in
    let n = made_next x q stands rising in
    let f = made_is x q history s h.2 h.3 in
    let m = entries_next x q history (entry_of s) f.3 in
    let z : length (filter (on_place (is_made x) q) stands) ≡ 1 = ap length h.1 in
    let y : length (entries_by x (entry_of s ∷ [])) ≡ 1 = ap (λ b. length (cond b (entry_of s ∷ []) [])) (eq-eqb s.by x f.1) in
    omega arith)
    (made_once x q history stands rising told)

count_steps : (x q r : ℕ) (history : List Entry) (stands : List Stand) → q ≤ r → r ≤ length history → Pairs Below stands → Each (Told history) stands
    → length (filter (below_place (is_made x) r) stands) + length (entries_by x (take q history)) ≤ length (filter (below_place (is_made x) q) stands) + length (entries_by x (take r history))
count_steps x q zero history stands l m rising told =
    subst (λ r. length (filter (below_place (is_made x) r) stands) + length (entries_by x (take q history)) ≤ length (filter (below_place (is_made x) q) stands) + length
    (entries_by x (take r history))) (let e : q ≡ 0 = omega arith in e) (omega arith)
count_steps x q (suc r) history stands l m rising told = ⊎_elim
    (λ e. subst
    (λ r. length (filter (below_place (is_made x) r) stands) + length (entries_by x (take q history)) ≤ length (filter (below_place (is_made x) q) stands) + length
    (entries_by x (take r history))) e (omega arith))
    (λ ne. let f = count_steps x q r history stands (omega arith) (omega arith) rising told in let g = count_step x r history stands (omega arith) rising told in omega arith)
    (cases_eq q (suc r))

-- all of a caller's changes are at places of the history
made_whole : (x : ℕ) (history : List Entry) (stands : List Stand) → Each (Told history) stands → filter (below_place (is_made x) (length history)) stands ≡ made_by x stands
made_whole x history stands told = filter_same (below_place (is_made x) (length history)) (is_made x) stands
    (each_map (Told history) (λ (s : Stand). below_place (is_made x) (length history) s ≡ is_made x s) stands
    (λ s t. kept (is_made x s) (under (length history) s.place) (λ h. lt_under (length history) s.place (at_below history s.place (entry_of s) (t (and_parts s.changes (eqb s.by x) h).0)))) told)
  where
    kept : (b u : Bool) → (b ≡ true → u ≡ true) → (b && u) ≡ b
    kept true u h = h refl
    kept false u h = refl

-- the entry is its caller's
entry_caller : (q : ℕ) (e : Entry) (history : List Entry) (s : Stand) → get_elem? history q ≡ some e → Told history s → s.changes ≡ true → s.place ≡ q → s.by ≡ e.caller
entry_caller q e history s at told changes place =
    let there : get_elem? history q ≡ some (entry_of s) = subst (λ n. get_elem? history n ≡ some (entry_of s)) place (told changes) in
    let same : entry_of s ≡ e = some-injective (entry_of s) e (sym there ∙ at) in
    ap (λ (z : Entry). z.caller) same

entry_made : (q : ℕ) (e : Entry) (history : List Entry) (stands : List Stand) → get_elem? history q ≡ some e → Each (Told history) stands
    → entry_at q stands ≡ filter (on_place (is_made e.caller) q) stands
entry_made q e history stands at told = filter_same (λ (s : Stand). s.changes && eqb s.place q) (on_place (is_made e.caller) q) stands
    (each_map (Told history) (λ (s : Stand). (s.changes && eqb s.place q) ≡ on_place (is_made e.caller) q s) stands
    (λ s t. whose s.changes (eqb s.by e.caller) (eqb s.place q) (λ c p. eq-eqb s.by e.caller (entry_caller q e history s at t c (eqb-true s.place q p)))) told)
  where
    whose : (c b t : Bool) → (c ≡ true → t ≡ true → b ≡ true) → (c && t) ≡ ((c && b) && t)
    whose true b true h = sym (ap (λ z. z && true) (h refl refl))
    whose true true false h = refl
    whose true false false h = refl
    whose false b t h = refl

-- as many stands of the caller before each place as entries
one_entry : (q : ℕ) (e : Entry) (history : List Entry) (stands : List Stand) → get_elem? history q ≡ some e → Pairs Below stands → Each (Told history) stands
    → entries_by e.caller history ≡ map entry_of (made_by e.caller stands)
    → (s : Stand) × (entry_at q stands ≡ s ∷ []) × (s.changes ≡ true) × (s.place ≡ q) × (s.by ≡ e.caller)
one_entry q e history stands at rising told made =
    let x : ℕ = e.caller in
    let l = at_below history q e at in
    let first = count_steps x 0 q history stands (omega arith) (omega arith) rising told in
    let second = count_steps x (suc q) (length history) history stands (omega arith) (omega arith) rising told in
    let none : length (filter (below_place (is_made x) 0) stands) ≡ 0 = ap length (none_before (is_made x) stands) in
    let all : length (filter (below_place (is_made x) (length history)) stands) ≡ length (made_by x stands) = ap length (made_whole x history stands told) in
    let entries : length (entries_by x (take (length history) history)) ≡ length (made_by x stands)
    = ap (λ z. length (entries_by x z)) (take_all (length history) history (omega arith)) ∙ (ap length made ∙ length-map (made_by x stands) entry_of) in
    let next = made_next x q stands rising in
    let more = entries_next x q history e at in
    let one : length (entries_by x (e ∷ [])) ≡ 1 = ap (λ b. length (cond b (e ∷ []) [])) (eq-eqb e.caller x refl) in
    ⊎_elim
    (λ h. let z : length (filter (on_place (is_made x) q) stands) ≡ 0 = ap length h in absurd (omega arith))
    (λ h. let s : Stand = h.0 in
    let f = made_is x q history s h.2 h.3 in
    let only : entry_at q stands ≡ s ∷ [] = entry_made q e history stands at told ∙ h.1 in
    (s, only, f.0, f.2, f.1))
    (made_once x q history stands rising told)

-- the line's stands in turn on the object of one thread

-- the stand is right for the history, its caller holding this record before
record Good (plan : Plan) (history : List Entry) (held : Option (List ℕ)) (s : Stand) : Type 0 where
  legal : IsLegal plan held s.call
  reply : IsReply plan s.stock (state_at history s.place) (take s.place history) held s.call s.reply
  changes : s.changes ≡ (is_change (state_at history s.place) s.call && not (is_full s.reply))
  entry : Told history s

-- one caller's stands are
abbrev Called : Plan → List Entry → Option (List ℕ) → List Stand → Type 0
Called plan history held [] = Unit {0}
Called plan history held (s ∷ r) = Good plan history held s × Called plan history (held_after (state_at history s.place) held s.call) r

called_head : (plan : Plan) (history : List Entry) (held : Option (List ℕ)) (s : Stand) (r : List Stand) (b : Bool) → (b ≡ true → Good plan history held s)
    → Called plan history (cond b (held_after (state_at history s.place) held s.call) held) r → Called plan history held (cond b (s ∷ r) r)
called_head plan history held s r true good more = (good refl, more)
called_head plan history held s r false good more = more

called_by : (plan : Plan) (history : List Entry) (x : ℕ) (held : Option (List ℕ)) (stands : List Stand)
    → ((i : ℕ) (s : Stand) → get_elem? stands i ≡ some s → s.by ≡ x → Good plan history (held_from history x held (take i stands)) s)
    → Called plan history held (stands_by x stands)
called_by plan history x held [] good = tt
called_by plan history x held (s ∷ r) good = called_head plan history held s (stands_by x r) (eqb s.by x) (λ h. good 0 s refl (eqb-true s.by x h))
    (called_by plan history x (cond (eqb s.by x) (held_after (state_at history s.place) held s.call) held) r (λ i t at by. good (suc i) t at by))

-- stands from a place of the history on, in its order
abbrev InPlace : ℕ → List Entry → ℕ → List Stand → Type 0
InPlace seats history q [] = q ≡ length history
InPlace seats history q (s ∷ r) = (s.by < seats) × (s.place ≡ q) × InPlace seats history (cond s.changes (suc q) q) r

state_after : (history : List Entry) (q : ℕ) (e : Entry) → get_elem? history q ≡ some e → state_at history (suc q) ≡ contents_after (state_at history q) e.call
state_after history q e at = ap (contents_from blank) (take_one history q e at) ∙ contents_from-append blank (take q history) (e ∷ [])

and_true : (b : Bool) → false ≡ (b && true) → b ≡ false
and_true true h = sym h
and_true false h = refl

and_not : (b : Bool) → true ≡ (b && false) → ⊥
and_not true h = false≢true (sym h)
and_not false h = false≢true (sym h)

contents_step : (history : List Entry) (q : ℕ) (object : Object) (e : Entry) (f c : Bool) → c ≡ (is_change (state_at history q) e.call && not f)
    → (c ≡ true → get_elem? history q ≡ some e)
    → object.contents ≡ state_at history q
    → (cond f object (object_after object e)).contents ≡ state_at history (cond c (suc q) q)
contents_step history q object e true true changes entry same = absurd (and_not (is_change (state_at history q) e.call) changes)
contents_step history q object e true false changes entry same = same
contents_step history q object e false true changes entry same = ap (λ (c : Contents). contents_after c e.call) same ∙ sym (state_after history q e (entry refl))
contents_step history q object e false false changes entry same = ap (λ (c : Contents). contents_after c e.call) same
    ∙ idle (state_at history q) e.call (and_true (is_change (state_at history q) e.call) changes)

-- Full comes only where the call would change the contents, and such a call leaves what its caller holds
full_changes : (plan : Plan) (stock : ℕ) (c : Contents) (log : List Entry) (held : Option (List ℕ)) (call : Call) (reply : Reply) → IsReply plan stock c log held call reply
    → is_full reply ≡ true → is_change c call ≡ true
full_changes plan stock c log held call (Full need free) right full = right.changes
full_changes plan stock c log held call _ right full = absurd (false≢true full)

-- the log of the changes, a stand further
next_log : (history log : List Entry) (q : ℕ) (e : Entry) (b : Bool) → (b ≡ true → get_elem? history q ≡ some e) → log ≡ take q history
    → cond b (log ++ e ∷ []) log ≡ take (cond b (suc q) q) history
next_log history log q e true at is = ap (λ l. l ++ e ∷ []) is ∙ sym (take_one history q e (at refl))
next_log history log q e false at is = is

held_here : (object : Object) (e : Entry) (f : Bool) → (f ≡ true → is_change object.contents e.call ≡ true)
    → (cond f object (object_after object e)).held e.caller ≡ held_after object.contents (object.held e.caller) e.call
held_here object e true full = sym (change_holds object.contents object.contents (object.held e.caller) e.call (full refl))
held_here object e false full = ap (λ b. cond b (held_after object.contents (object.held e.caller) e.call) (object.held e.caller)) (eq-eqb e.caller e.caller refl)

held_else : (object : Object) (e : Entry) (x : ℕ) (f : Bool) → e.caller ≢ x → (cond f object (object_after object e)).held x ≡ object.held x
held_else object e x true ne = refl
held_else object e x false ne = ap (λ b. cond b (held_after object.contents (object.held e.caller) e.call) (object.held x)) (ne_eqb e.caller x ne)

-- each stand of the line is its caller's of the plan, after as many changes as its place says, and tells whether it is one itself
abbrev pub Tells : Plan → List Entry → Object → List Entry → List Stand → Type 0
Tells plan history object log [] = log ≡ history
Tells plan history object log (s ∷ r) = (s.by < plan.seats) × (log ≡ take s.place history) × (s.changes ≡ (is_change object.contents s.call && not (is_full s.reply)))
    × Tells plan history (after_stand object s) (log_after log object s) r

replay : (plan : Plan) (history : List Entry) (q : ℕ) (object : Object) (log : List Entry) (line : List Stand) → object.contents ≡ state_at history q → log ≡ take q history
    → InPlace plan.seats history q line
    → ((x : ℕ) → x < plan.seats → Called plan history (object.held x) (stands_by x line))
    → Replays plan object log line × ((after_stands object line).contents ≡ state_at history (length history)) × Tells plan history object log line
replay plan history q object log [] same logged place called =
    (tt, same ∙ ap (state_at history) place, logged ∙ (ap (λ n. take n history) place ∙ take_all (length history) history (omega arith)))
replay plan history q object log (s ∷ r) same logged place called =
    let own : Good plan history (object.held s.by) s × Called plan history (held_after (state_at history s.place) (object.held s.by) s.call) (stands_by s.by r)
    = subst (λ b. Called plan history (object.held s.by) (cond b (s ∷ stands_by s.by r) (stands_by s.by r))) (eq-eqb s.by s.by refl) (called s.by place.0) in
    let here : object.contents ≡ state_at history s.place = same ∙ ap (state_at history) (sym place.1) in
    let there : log ≡ take s.place history = logged ∙ ap (λ n. take n history) (sym place.1) in
    let reply : IsReply plan s.stock object.contents log (object.held s.by) s.call s.reply
    = subst (λ (z : Contents × List Entry). IsReply plan s.stock z.0 z.1 (object.held s.by) s.call s.reply) (λ i. (sym here i, sym there i)) own.0.reply in
    let after : (after_stand object s).contents ≡ state_at history (cond s.changes (suc q) q)
    = contents_step history s.place object (entry_of s) (is_full s.reply) s.changes own.0.changes own.0.entry here ∙ ap (λ n. state_at history (cond s.changes (suc n) n)) place.1 in
    let full : is_full s.reply ≡ true → is_change object.contents s.call ≡ true = λ h. full_changes plan s.stock object.contents log (object.held s.by) s.call s.reply reply h in
    let flag : (is_change object.contents s.call && not (is_full s.reply)) ≡ s.changes = ap (λ (c : Contents). is_change c s.call && not (is_full s.reply)) here ∙ sym own.0.changes in
    let more : log_after log object s ≡ take (cond s.changes (suc q) q) history
    = ap (λ b. cond b (log ++ entry_of s ∷ []) log) flag ∙ next_log history log q (entry_of s) s.changes (λ c. ap (get_elem? history) (sym place.1) ∙ own.0.entry c) logged in
    let rest = replay plan history (cond s.changes (suc q) q) (after_stand object s) (log_after log object s) r after more place.2 (λ x l. ⊎_elim
    (λ e. subst (λ n. Called plan history ((after_stand object s).held n) (stands_by n r)) e
    (subst (λ (h : Option (List ℕ)). Called plan history h (stands_by s.by r))
    (ap (λ (c : Contents). held_after c (object.held s.by) s.call) (sym here) ∙ sym (held_here object (entry_of s) (is_full s.reply) full)) own.1))
    (λ ne. subst (λ (h : Option (List ℕ)). Called plan history h (stands_by x r)) (sym (held_else object (entry_of s) x (is_full s.reply) ne))
    (subst (λ b. Called plan history (object.held x) (cond b (s ∷ stands_by x r) (stands_by x r))) (ne_eqb s.by x ne) (called x l)))
    (cases_eq s.by x)) in
    ((record { legal = own.0.legal; reply = reply }, rest.0), rest.1, (place.0, there, sym flag, rest.2))

-- readings at a place, before what else stands from it on
still_first : (seats : ℕ) (history : List Entry) (q : ℕ) (front rest : List Stand) → Each (λ (s : Stand). (s.by < seats) × (s.place ≡ q) × (s.changes ≡ false)) front
    → InPlace seats history q rest → InPlace seats history q (front ++ rest)
still_first seats history q [] rest each place = place
still_first seats history q (s ∷ front) rest each place =
    (each.0.0, each.0.1, subst (λ b. InPlace seats history (cond b (suc q) q) (front ++ rest)) (sym each.0.2) (still_first seats history q front rest each.1 place))

readings_still : (seats q n : ℕ) (stands : List Stand) → n ≤ seats → Each (λ (s : Stand). (s.by < seats) × (s.place ≡ q) × (s.changes ≡ false)) (readings_below q n stands)
readings_still seats q zero stands l = tt
readings_still seats q (suc n) stands l = each_append (λ (s : Stand). (s.by < seats) × (s.place ≡ q) × (s.changes ≡ false)) (readings_below q n stands) (readings q n stands)
    (readings_still seats q n stands (omega arith))
    (each_map (λ (s : Stand). reading_by q n s ≡ true) (λ (s : Stand). (s.by < seats) × (s.place ≡ q) × (s.changes ≡ false)) (readings q n stands) (λ s h.
    let f = and_parts (not s.changes) (eqb s.by n && eqb s.place q) h in
    let g = and_parts (eqb s.by n) (eqb s.place q) f.1 in
    let by : s.by ≡ n = eqb-true s.by n g.0 in
    (omega arith, eqb-true s.place q g.1, not-true s.changes f.0)) (filter_kept (reading_by q n) stands))

-- one stand at each place of the history is its entry
abbrev pub OneEach : ℕ → List Entry → List Stand → Type 0
OneEach seats history stands = (q : ℕ) → q < length history → (s : Stand) × (entry_at q stands ≡ s ∷ []) × (s.changes ≡ true) × (s.place ≡ q) × (s.by < seats)

line_in_place : (seats : ℕ) (history : List Entry) (q : ℕ) (stands rest : List Stand) → q ≤ length history → OneEach seats history stands → InPlace seats history q rest
    → InPlace seats history 0 (line_before seats q stands ++ rest)
line_in_place seats history zero stands rest l one place = place
line_in_place seats history (suc q) stands rest l one place =
    let e = one q (omega arith) in
    let s : Stand = e.0 in
    let entry : InPlace seats history q (s ∷ rest) = (e.4, e.3, subst (λ b. InPlace seats history (cond b (suc q) q) rest) (sym e.2) place) in
    let here : InPlace seats history q (entry_at q stands ++ rest) = subst (λ (z : List Stand). InPlace seats history q (z ++ rest)) (sym e.1) entry in
    let all : InPlace seats history q (readings_below q seats stands ++ (entry_at q stands ++ rest)) = still_first seats history q (readings_below q seats stands)
    (entry_at q stands ++ rest) (readings_still seats q seats stands (omega arith)) here in
    subst (λ (z : List Stand). InPlace seats history 0 z) (sym (append_assoc (line_before seats q stands) (readings_below q seats stands ++ entry_at q stands) rest))
    (line_in_place seats history q stands ((readings_below q seats stands ++ entry_at q stands) ++ rest) (omega arith) one
    (subst (λ (z : List Stand). InPlace seats history q z) (sym (append_assoc (readings_below q seats stands) (entry_at q stands) rest)) all))

whole_in_place : (seats : ℕ) (history : List Entry) (stands : List Stand) → OneEach seats history stands → InPlace seats history 0 (line_of seats history stands)
whole_in_place seats history stands one =
    let n = length history in
    line_in_place seats history n stands (readings_below n seats stands) (omega arith) one
    (subst (λ (z : List Stand). InPlace seats history n z) (append-nil (readings_below n seats stands))
    (still_first seats history n (readings_below n seats stands) [] (readings_still seats n seats stands (omega arith)) refl))

-- each entry of the history is one stand of a seat that holds all numbers
pub one_each : (p : Plan) (numbers : List ℕ) (history : List Entry) (stands : List Stand) → IsHistory p history → Lawful p numbers history stands
    → ((x : ℕ) → x < p.seats → has numbers x ≡ true) → OneEach p.seats history stands
one_each p numbers history stands is lawful all q l =
    let e = there_is history q l in
    let caller : e.0.caller < p.seats = (is.each q e.0 e.1).caller in
    let f = one_entry q e.0 history stands e.1 (pairs_from Below stands lawful.rising) (each_from (Told history) stands (λ i s at. (lawful.right i s at).entry))
    (lawful.made e.0.caller (all e.0.caller caller)) in
    (f.0, f.1, f.2, f.3, subst (λ n. n < p.seats) (sym f.4) caller)

-- the line of a seat that holds all numbers
module _ (p : Plan) (numbers : List ℕ) (history : List Entry) (stands : List Stand) (is : IsHistory p history) (lawful : Lawful p numbers history stands)
    (all : (x : ℕ) → x < p.seats → has numbers x ≡ true) where
  kept_order : (x : ℕ) → x < p.seats → stands_by x (line_of p.seats history stands) ≡ stands_by x stands
  kept_order x l = by_whole p.seats x history stands l (pairs_from Below stands lawful.rising)
      (each_from (Within history) stands (λ i s at. ((lawful.right i s at).place, λ c. at_below history s.place (entry_of s) ((lawful.right i s at).entry c))))

  replayed : Replays p blank_object [] (line_of p.seats history stands) × ((after_stands blank_object (line_of p.seats history stands)).contents ≡ state_at history (length history))
      × Tells p history blank_object [] (line_of p.seats history stands)
  replayed = replay p history 0 blank_object [] (line_of p.seats history stands) refl refl
      (whole_in_place p.seats history stands (one_each p numbers history stands is lawful all)) (λ x l.
      subst (λ (z : List Stand). Called p history None z) (sym (kept_order x l)) (called_by p history x None stands (λ i s at by.
      let right = lawful.right i s at in
      record {
        legal = subst (λ n. IsLegal p (held_by history n (take i stands)) s.call) by right.legal;
        reply = subst (λ n. IsReply p s.stock (state_at history s.place) (take s.place history) (held_by history n (take i stands)) s.call s.reply) by right.reply;
        changes = right.changes;
        entry = right.entry;
      })))

  pub in_one_line : InOneLine p history stands
  in_one_line = record {
    replays = replayed.0;
    order = kept_order;
    contents = replayed.1;
    kept = lawful.kept;
    stocks = λ x l one. subst (StocksAre p history) (sym (kept_order x l)) (stocks_one p history x [] stands lawful.kept (subst (AreOfOne x) (kept_order x l) one));
  }

  pub line_tells : Tells p history blank_object [] (line_of p.seats history stands)
  line_tells = replayed.2

middle : (seen : List Entry) (e : Entry) (rest : List Entry) → get_elem? (seen ++ e ∷ rest) (length seen) ≡ some e
middle [] e rest = refl
middle (x ∷ seen) e rest = middle seen e rest

-- a seat that holds all numbers has seen the whole history
pub seen_whole : (p : Plan) (log seen rest : List Entry) (numbers : List ℕ) → IsHistory p log → log ≡ seen ++ rest → ((x : ℕ) → has numbers x ≡ true → NoneBy x rest)
    → ((x : ℕ) → x < p.seats → has numbers x ≡ true) → rest ≡ []
seen_whole p log seen [] numbers is whole none all = refl
seen_whole p log seen (e ∷ rest) numbers is whole none all =
    let entry = is.each (length seen) e (ap (λ (z : List Entry). get_elem? z (length seen)) whole ∙ middle seen e rest) in
    absurd ((none e.caller (all e.caller entry.caller)).0 refl)
