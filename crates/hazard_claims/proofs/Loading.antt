-- A scan as far as its loop has come, and at its end.
use Rattle.std.proofs.Common.{◌-◌, nat_lt, ◌≡◌, ◌≢◌, ℕ, ◌+◌, ◌*◌, ◌/◌, ◌%◌, ◌<◌, ◌≤◌, suc, zero, Bool, true, false, not, ◌&&◌, ◌||◌, List, [], ◌∷◌, ◌++◌}
use Rattle.std.proofs.Common.{length, map, filter, get_or, set, cond, eqb, eq-eqb, ne_eqb, refl, sym, ap, ◌∙◌, subst, arith, add-one, ◌⊎◌, inl, inr, ⊎_elim}
use Rattle.std.proofs.Common.{slice_index_or}
use Rattle.std.proofs.lemmas.Bool.Decides.{nat_tests}
use Rattle.std.proofs.lemmas.Bool.{and_parts, cases_eq, eqb-true, or_left, or_right}
use Rattle.std.proofs.lemmas.List.{append-nil, append_assoc, length-set, get_or-set_other, get_or-set_same, get_or_append_left, length-map, map-append}
use Rattle.std.proofs.Math.Seq.{get_or-append_seam}
use Rattle.hazard_claims.specs.Scanning.{ClearsWalk, IsScan, names}
use Rattle.step_rules.proofs.Keeps.Scans.{has_filter, once_filter}
use Rattle.step_rules.proofs.Numbers.Sets.{all_there, at_most, has_first}
use Rattle.step_rules.specs.Claims.{WALK}
use Rattle.step_rules.specs.Kinds.Claiming.{FindsOwn, MayScan}
use Rattle.step_rules.specs.Layout.{claim_at}
use Rattle.step_rules.specs.SeatData.{IsOf, ObjectData, SeatData, all_zero, claim_words, holds_record, is_empty}
use Rattle.step_rules.specs.Sound.{Sound}
use Rattle.step_rules.specs.Steps.{IsScanned, found_at, kinds_of, scan_kinds, stepped, stood_at}
use Rattle.step_rules.specs.Views.{claim_of, counted, freed_view, is_freed, noted, number, scan_of, scan_step, scanned_scan, scanned_view, silent, stands_in}
use Rattle.step_rules.specs.World.{Once, has}
use Rattle.step_rules.specs.declared.layout.TheConstants.{CLAIMS}
use Rattle.step_rules.specs.declared.view.Claim.{Claim}
use Rattle.step_rules.specs.declared.view.Counted.{Counted}
use Rattle.step_rules.specs.declared.view.Kind.{Kind}
use Rattle.step_rules.specs.declared.view.Kind.TheVariants.{ClaimClear, ScanLoad}
use Rattle.step_rules.specs.declared.view.Scan.{Scan}
use Rattle.step_rules.specs.declared.view.View.{View}

filter_same : (f g : ℕ → Bool) (xs : List ℕ) → ((n : ℕ) → has xs n ≡ true → f n ≡ g n) → filter f xs ≡ filter g xs
filter_same f g [] h = refl
filter_same f g (x ∷ xs) h =
    let e : f x ≡ g x = h x (or_left (eqb x x) (has xs x) (eq-eqb x x refl)) in
    let r : filter f xs ≡ filter g xs = filter_same f g xs (λ n q. h n (or_right (eqb x n) (has xs n) q)) in
    ap (λ (z : Bool × List ℕ). cond z.0 (x ∷ z.1) z.1) (λ i. (e i, r i))

filter_none : (f : ℕ → Bool) (xs : List ℕ) → ((n : ℕ) → f n ≡ false) → filter f xs ≡ []
filter_none f [] h = refl
filter_none f (x ∷ xs) h = subst (λ b. cond b (x ∷ filter f xs) (filter f xs) ≡ []) (sym (h x)) (filter_none f xs h)

has_last : (xs : List ℕ) (x n : ℕ) → has (xs ++ x ∷ []) n ≡ (eqb x n || has xs n)
has_last [] x n = refl
has_last (y ∷ ys) x n = let i = has_last ys x n in grind arith

-- the node that a word names is found, as the word is
noted_names : (x n : ℕ) (found words : List ℕ) → has found n ≡ has words (n + 1) → has (noted x found) n ≡ has (words ++ x ∷ []) (n + 1)
noted_names zero n found words h = h ∙ sym (has_last words 0 (n + 1) ∙ ap (λ b. b || has words (n + 1)) (ne_eqb 0 (n + 1) (λ e. omega arith)))
noted_names (suc m) n found words h = ap (λ b. eqb m n || b) h ∙ sym (has_last words (suc m) (n + 1) ∙ ap (λ b. b || has words (n + 1)) (⊎_elim
    (λ e. eq-eqb (suc m) (n + 1) (omega arith) ∙ sym (eq-eqb m n e))
    (λ e. ne_eqb (suc m) (n + 1) (λ q. e (omega arith)) ∙ sym (ne_eqb m n e))
    (cases_eq m n)))

noted_few : (x : ℕ) (found : List ℕ) (w : ℕ) → length found ≤ w → length (noted x found) ≤ suc w
noted_few zero found w few = omega arith
noted_few (suc m) found w few = omega arith

kinds_more : (w n : ℕ) → scan_kinds w (suc n) ≡ scan_kinds w n ++ ScanLoad (w + n) ∷ []
kinds_more w zero = ap (λ m. ScanLoad m ∷ []) (omega arith)
kinds_more w (suc n) = ap (λ (l : List Kind). ScanLoad w ∷ l) (kinds_more (suc w) n ∙ ap (λ m. scan_kinds (suc w) n ++ ScanLoad m ∷ []) (omega arith))

length_kinds : (w n : ℕ) → length (scan_kinds w n) ≡ n
length_kinds w zero = refl
length_kinds w (suc n) = ap suc (length_kinds (suc w) n)

-- what the first w words were found to be, and whether a claim of the seat stood in them
pub record Loads (w : ℕ) (loads : List Counted) (v : View) : Type 0 where
  pub kinds : kinds_of loads ≡ scan_kinds 0 w
  pub own : (i : ℕ) → i < w → FindsOwn i (found_at i loads) v
  pub stood : (i : ℕ) → i < w → stood_at i loads ≡ stands_in i v

pub no_loads : (v : View) → Loads 0 [] v
no_loads v = record { kinds = refl; own = λ i below. absurd (omega arith); stood = λ i below. absurd (omega arith) }

loads_long : {A : Type 0} (f : Counted → A) (w : ℕ) (loads : List Counted) (v : View) → Loads w loads v → length (map f loads) ≡ w
loads_long f w loads v so_far = length-map loads f ∙ (sym (length-map loads (λ (step : Counted). step.kind)) ∙ (ap (length {A = Kind}) so_far.kinds ∙ length_kinds 0 w))

abbrev pub one_more : ℕ → ℕ → View → List Counted → List Counted
one_more w x v loads = loads ++ scan_step w x v ∷ []

words_more : (w x : ℕ) (v : View) (loads : List Counted) → map (λ (step : Counted). step.found) (one_more w x v loads) ≡ map (λ (step : Counted). step.found) loads ++ x ∷ []
words_more w x v loads = map-append (λ (step : Counted). step.found) loads (scan_step w x v ∷ [])

-- what a list says at its last place
at_end : {A : Type 0} (f : Counted → A) (d : A) (loads : List Counted) (step : Counted) (i w : ℕ) → length (map f loads) ≡ w → i ≡ w → slice_index_or (map f (loads ++ step ∷ [])) i d ≡ f step
at_end f d loads step i w long last =
    ap (λ l. slice_index_or l i d) (map-append f loads (step ∷ [])) ∙ (ap (λ j. slice_index_or (map f loads ++ f step ∷ []) j d) (last ∙ sym long) ∙ get_or-append_seam (map f loads) (f step) [] d)

-- and before it
at_before : {A : Type 0} (f : Counted → A) (d : A) (loads : List Counted) (step : Counted) (i w : ℕ) → length (map f loads) ≡ w → i < w
    → slice_index_or (map f (loads ++ step ∷ [])) i d ≡ slice_index_or (map f loads) i d
at_before f d loads step i w long below = ap (λ l. slice_index_or l i d) (map-append f loads (step ∷ [])) ∙ get_or_append_left (map f loads) (f step ∷ []) d i (omega arith)

pub more_loads : (w x : ℕ) (loads : List Counted) (v : View) → Loads w loads v → FindsOwn w x v → Loads (suc w) (one_more w x v loads) v
more_loads w x loads v so_far finds =
    let found : Counted → ℕ = λ step. step.found in
    let stood : Counted → Bool = λ step. step.stood in
    let long = loads_long found w loads v so_far in
    let flags = loads_long stood w loads v so_far in
    let step = scan_step w x v in
    record {
      kinds = map-append (λ (step : Counted). step.kind) loads (step ∷ [])
          ∙ (ap (λ (l : List Kind). l ++ ScanLoad w ∷ []) so_far.kinds ∙ (ap (λ n. scan_kinds 0 w ++ ScanLoad n ∷ []) (omega arith) ∙ sym (kinds_more 0 w)));
      own = λ i below. ⊎_elim
          (λ e. subst (λ z. FindsOwn i z v) (sym (at_end found 0 loads step i w long e)) (subst (λ j. FindsOwn j x v) (sym e) finds))
          (λ ne. subst (λ z. FindsOwn i z v) (sym (at_before found 0 loads step i w long (omega arith))) (so_far.own i (omega arith)))
          (cases_eq i w);
      stood = λ i below. ⊎_elim
          (λ e. at_end stood false loads step i w flags e ∙ ap (λ j. stands_in j v) (sym e))
          (λ ne. at_before stood false loads step i w flags (omega arith) ∙ so_far.stood i (omega arith))
          (cases_eq i w);
    }

-- the seat after these loads, where the scan isn't over
abbrev pub after : SeatData → List Counted → Scan → Bool → SeatData
after start loads scan fresh = record start { view = record start.view { trail = start.view.trail ++ loads; scan = scan }; fresh = fresh }

-- the scan goes on at the word w, of the nodes that were retired at the start
pub record Going (w : ℕ) (loads : List Counted) (start now : SeatData) : Type 0 where
  pub scan : Scan
  pub fresh : Bool
  pub is : now ≡ after start loads scan fresh
  pub next : (scan_of w (after start loads scan fresh).view).next ≡ w
  pub old : (scan_of w (after start loads scan fresh).view).old ≡ start.view.retired
  pub named : (n : ℕ) → has (scan_of w (after start loads scan fresh).view).found n ≡ names n loads
  pub few : length (scan_of w (after start loads scan fresh).view).found ≤ w

pub begins : (start : SeatData) → Going 0 [] start start
begins start = record {
  scan = start.view.scan;
  fresh = start.fresh;
  is = ap (λ t. record start { view = record start.view { trail = t } }) (sym (append-nil start.view.trail));
  next = refl;
  old = refl;
  named = λ n. refl;
  few = omega arith;
}

scan_later : (w : ℕ) (v : View) → scan_of (suc w) v ≡ v.scan
scan_later w v = ap (λ b. cond b (record { next = 0; old = v.retired; found = [] }) v.scan) (ne_eqb (suc w) 0 (λ e. omega arith))

-- the scan is over, after these loads
pub record Ended (loads : List Counted) (start new : SeatData) : Type 0 where
  pub retired : new.view.retired ≡ filter (λ n. names n loads) start.view.retired
  pub free : new.free ≡ start.free ++ filter (λ n. not (names n loads)) start.view.retired
  pub few : length new.view.retired ≤ CLAIMS * start.view.plan.seats
  pub same : new ≡ stepped (record start.view {
    own = new.view.own;
    retired = new.view.retired;
    trail = start.view.trail ++ loads;
    scan = new.view.scan;
  }) (record start { free = new.free })

pub going_of : (w : ℕ) (loads : List Counted) (start now : SeatData) (shared : ObjectData) → Going w loads start now → IsOf shared start → IsOf shared now
going_of w loads start now shared going of = subst (λ s. IsOf shared s) (sym going.is) (record { object = of.object; plan = of.plan })

pub finds_own : (w x : ℕ) (loads : List Counted) (start now : SeatData) → Going w loads start now → FindsOwn w x now.view → FindsOwn w x start.view
finds_own w x loads start now going finds = let here = subst (λ (s : SeatData). FindsOwn w x s.view) going.is finds in record { least = here.least; others = here.others }

next_is : (w : ℕ) (v : View) → (scan_of w v).next ≡ w → w ≢ 0 → w ≡ v.scan.next
next_is zero v next ne = absurd (ne refl)
next_is (suc w) v next ne = sym (ap (λ (s : Scan). s.next) (sym (scan_later w v)) ∙ next)

pub may_scan : (w : ℕ) (loads : List Counted) (start now : SeatData) → Going w loads start now → w < CLAIMS * start.view.plan.seats → MayScan w now.view
may_scan w loads start now going below = subst (λ (s : SeatData). MayScan w s.view) (sym going.is)
    (below, next_is w (after start loads going.scan going.fresh).view going.next)

not_twice : (b : Bool) → not (not b) ≡ b
not_twice true = refl
not_twice false = refl

-- what the load of one word more finds
module _ (w x : ℕ) (loads : List Counted) (start now new : SeatData) (going : Going w loads start now) (scanned : IsScanned w x now new) where
  abbrev here : SeatData
  here = after start loads going.scan going.fresh

  abbrev more : List Counted
  more = one_more w x start.view loads

  abbrev then_scan : Scan
  then_scan = scanned_scan w x here.view

  scanned_here : IsScanned w x here new
  scanned_here = subst (λ z. IsScanned w x z new) going.is scanned

  named_then : (n : ℕ) → has then_scan.found n ≡ names n more
  named_then n = noted_names x n (scan_of w here.view).found (map (λ (step : Counted). step.found) loads) (going.named n) ∙ sym (ap (λ l. has l (n + 1)) (words_more w x start.view loads))

  few_then : length then_scan.found ≤ suc w
  few_then = noted_few x (scan_of w here.view).found w going.few

  pub goes_on : suc w < CLAIMS * start.view.plan.seats → Going (suc w) more start new
  goes_on below = let later = scan_later w (after start more then_scan false).view in record {
    scan = then_scan;
    fresh = false;
    is = scanned_here.on below ∙ ap (λ t. stepped (record here.view { trail = t; scan = then_scan }) here) (append_assoc start.view.trail loads (scan_step w x start.view ∷ []));
    next = ap (λ (s : Scan). s.next) later ∙ add-one w;
    old = ap (λ (s : Scan). s.old) later ∙ going.old;
    named = λ n. ap (λ (s : Scan). has s.found n) later ∙ named_then n;
    few = subst (λ (s : Scan). length s.found ≤ suc w) (sym later) few_then;
  }

  -- of the nodes that were retired at the start, just those are freed that no word names
  freed_is : (n : ℕ) → has start.view.retired n ≡ true → is_freed then_scan n ≡ not (names n more)
  freed_is n h =
      let there : has then_scan.old n ≡ true = ap (λ l. has l n) going.old ∙ h in
      ap (λ (z : Bool × Bool). z.0 && not z.1) (λ i. (there i, named_then n i))

  pub ends : suc w ≡ CLAIMS * start.view.plan.seats → Once start.view.retired → Ended more start new
  ends last once =
      let f = scanned_here.frees last in
      let before = scanned_view w x here.view in
      let retired : new.view.retired ≡ filter (λ n. names n more) start.view.retired =
      ap (λ (v : View). v.retired) f.after ∙ filter_same (λ n. not (is_freed then_scan n)) (λ n. names n more) start.view.retired (λ n h. ap not (freed_is n h) ∙ not_twice (names n more)) in
      record {
        retired = retired;
        free = scanned_here.freed last ∙ ap (λ l. start.free ++ l) (filter_same (is_freed then_scan) (λ n. not (names n more)) start.view.retired freed_is);
        few = let few = at_most (filter (λ n. names n more) start.view.retired) then_scan.found (once_filter (λ n. names n more) start.view.retired once)
            (λ n h. named_then n ∙ (has_filter (λ m. names m more) start.view.retired n h).1) in
            let long = ap (length {A = ℕ}) retired in omega (arith, few_then);
        same = scanned_here.same ∙ ap (λ v. stepped v (record start { free = new.free }))
            (subst (λ (u : View). u ≡ record start.view { own = u.own; retired = u.retired; trail = start.view.trail ++ more; scan = u.scan }) (sym f.after)
            (ap (λ t. record (freed_view f.freed before) { trail = t }) (append_assoc start.view.trail loads (scan_step w x start.view ∷ []))));
      }

-- the seat with its Walk claim cleared, or as it was
abbrev cleared : SeatData → List Counted → List Claim → Bool → SeatData
cleared old clear claims fresh = record old { view = record old.view { trail = old.view.trail ++ clear; claims = claims }; fresh = fresh }

pub record IsReady (old start : SeatData) : Type 0 where
  pub clear : List Counted
  pub claims : List Claim
  pub fresh : Bool
  pub is : start ≡ cleared old clear claims fresh
  pub step : (clear ≡ []) ⊎ (clear ≡ counted (ClaimClear WALK) 0 (length old.view.seen) ∷ [])
  pub walk : (slice_index_or claims WALK (silent 0)).word ≡ 0
  pub others : (c : ℕ) → c ≢ WALK → slice_index_or claims c (silent 0) ≡ claim_of c old.view

pub ready : (old start : SeatData) → length start.view.claims ≡ CLAIMS → ClearsWalk old start → IsReady old start
ready old start four (inl q) = record {
  clear = [];
  claims = old.view.claims;
  fresh = old.fresh;
  is = q.0 ∙ ap (λ t. record old { view = record old.view { trail = t } }) (sym (append-nil old.view.trail));
  step = inl refl;
  walk = q.1;
  others = λ c ne. refl;
}
ready old start four_now (inr q) = let four : length old.view.claims ≡ CLAIMS =
    sym (ap (λ (s : SeatData). length s.view.claims) q ∙ length-set old.view.claims WALK (silent 0)) ∙ four_now in record {
      clear = counted (ClaimClear WALK) 0 (length old.view.seen) ∷ [];
      claims = set old.view.claims WALK (silent 0);
      fresh = false;
      is = q;
      step = inr refl;
      walk = ap (λ (y : Claim). y.word) (get_or-set_same old.view.claims WALK (silent 0) (silent 0) (omega arith));
      others = λ c ne. get_or-set_other old.view.claims WALK c (silent 0) (silent 0) ne;
    }

pub ready_of : (old start : SeatData) (shared : ObjectData) → IsReady old start → IsOf shared old → IsOf shared start
ready_of old start shared is_ready of = subst (λ s. IsOf shared s) (sym is_ready.is) (record { object = of.object; plan = of.plan })

zero_claims : (xs : List Claim) (c : ℕ) → all_zero (map (λ (y : Claim). y.word) xs) ≡ true → (slice_index_or xs c (silent 0)).word ≡ 0
zero_claims [] c h = refl
zero_claims (y ∷ ys) zero h = eqb-true y.word 0 (and_parts (eqb y.word 0) (all_zero (map (λ (z : Claim). z.word) ys)) h).0
zero_claims (y ∷ ys) (suc c) h = zero_claims ys c (and_parts (eqb y.word 0) (all_zero (map (λ (z : Claim). z.word) ys)) h).1

-- zeros name no node
names_none : (words : List ℕ) (n : ℕ) → ((i : ℕ) → i < length words → get_or words i 0 ≡ 0) → has words (n + 1) ≡ false
names_none [] n h = refl
names_none (x ∷ words) n h =
    let first : x ≡ 0 = h 0 (omega arith) in
    let rest = names_none words n (λ i below. h (suc i) (omega arith)) in
    ap (λ (z : Bool × Bool). z.0 || z.1) (λ i. (ne_eqb x (n + 1) (λ e. omega arith) i, rest i))

-- of the own words, whether a claim stands there
own_stands : (n c : ℕ) (v : View) → number v ≡ n → stands_in (claim_at n c) v ≡ (claim_of c v).stands
own_stands n c v is =
    let least = claim_at n 0 in
    let high : nat_lt (claim_at n c) (claim_at (number v) 0) ≡ false = grind (arith, nat_tests) in
    let rest : claim_at n c - claim_at (number v) 0 ≡ c = omega arith in
    ap (λ (z : Bool × ℕ). cond z.0 false (claim_of z.1 v).stands) (λ i. (high i, rest i))

-- a whole scan
module _ (old start new : SeatData) (loads : List Counted) (sound_start : Sound start.view) (is_ready : IsReady old start)
    (loaded : Loads (CLAIMS * old.view.plan.seats) loads start.view) (ended : Ended loads start new) where
  abbrev ready_seat : SeatData
  ready_seat = cleared old is_ready.clear is_ready.claims is_ready.fresh

  sound : Sound ready_seat.view
  sound = subst (λ (s : SeatData). Sound s.view) is_ready.is sound_start

  found_words : Loads (CLAIMS * old.view.plan.seats) loads ready_seat.view
  found_words = subst (λ (s : SeatData). Loads (CLAIMS * old.view.plan.seats) loads s.view) is_ready.is loaded

  ending : Ended loads ready_seat new
  ending = subst (λ s. Ended loads s new) is_ready.is ended

  quiet_claim : (c : ℕ) → all_zero (claim_words old.view) ≡ true → (claim_of c ready_seat.view).word ≡ 0
  quiet_claim c quiet = ⊎_elim
      (λ e. subst (λ b. (slice_index_or is_ready.claims b (silent 0)).word ≡ 0) (sym e) is_ready.walk)
      (λ ne. ap (λ (y : Claim). y.word) (is_ready.others c ne) ∙ zero_claims old.view.claims c quiet)
      (cases_eq c WALK)

  -- where all numbers are the seat's and it is quiet, all words are 0
  found_none : length old.view.numbers ≡ old.view.plan.seats → all_zero (claim_words old.view) ≡ true → (i : ℕ) → i < CLAIMS * old.view.plan.seats → found_at i loads ≡ 0
  found_none all quiet i below =
      let x = i / 4 in
      let c = i % 4 in
      let at : i ≡ claim_at x c = omega arith in
      let mine = all_there old.view.numbers old.view.plan.seats x sound.once sound.below all (omega arith) in
      let finds = found_words.own i below in
      ⊎_elim
      (λ e. finds.least c (at ∙ ap (λ y. claim_at y c) e) (omega arith) ∙ quiet_claim c quiet)
      (λ ne. finds.others x c mine ne at (omega arith))
      (cases_eq x (number old.view))

  pub whole : IsScan old new
  whole =
      let claims = ap (λ (s : SeatData). s.view.claims) ending.same in
      let trail : new.view.trail ≡ old.view.trail ++ (is_ready.clear ++ loads) = ap (λ (s : SeatData). s.view.trail) ending.same ∙ append_assoc old.view.trail is_ready.clear loads in
      let words = map (λ (step : Counted). step.found) loads in
      let long : length words ≡ CLAIMS * old.view.plan.seats = loads_long (λ (step : Counted). step.found) (CLAIMS * old.view.plan.seats) loads ready_seat.view found_words in
      let mine = sound.below (number old.view) (has_first old.view.numbers sound.some_number) in
      record {
        clear = is_ready.clear;
        cleared = is_ready.step;
        walk_none = ap (λ l. (slice_index_or l WALK (silent 0)).word) claims ∙ is_ready.walk;
        loads = loads;
        kinds = found_words.kinds;
        trail = trail;
        retired = ending.retired;
        free = ending.free;
        few = ending.few;
        none = λ all quiet. let zero = (and_parts (is_empty old.holding) (all_zero (claim_words old.view))
            (and_parts (not (holds_record old.view)) (is_empty old.holding && all_zero (claim_words old.view)) quiet).1).1 in
            ending.retired ∙ filter_none (λ n. names n loads) old.view.retired (λ n. names_none words n (λ i below. found_none all zero i (omega arith)));
        own_words = λ c below. (found_words.own (claim_at (number old.view) c) (omega arith)).least c refl below ∙ ap (λ l. (slice_index_or l c (silent 0)).word) (sym claims);
        own_stood = λ c below. found_words.stood (claim_at (number old.view) c) (omega arith)
            ∙ (own_stands (number old.view) c ready_seat.view refl ∙ ap (λ l. (slice_index_or l c (silent 0)).stands) (sym claims));
        same = ending.same ∙ ap (λ (z : List Counted × List Claim). stepped (record old.view {
          own = new.view.own;
          retired = new.view.retired;
          trail = z.0;
          claims = z.1;
          scan = new.view.scan;
        }) (record old { free = new.free })) (λ i. (sym (ap (λ (s : SeatData). s.view.trail) ending.same) i, sym claims i));
        claims = λ c ne. ap (λ l. slice_index_or l c (silent 0)) claims ∙ is_ready.others c ne;
      }
