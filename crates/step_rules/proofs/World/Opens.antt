-- The rule at the start.
use Rattle.std.proofs.Common.{◌≢◌, ◌≡◌, ℕ, ◌+◌, ◌*◌, ◌/◌, ◌<◌, ◌≤◌, ◌&&◌, not, suc, zero, true, cond, List, [], ◌∷◌, ◌++◌, length, get_or, set}
use Rattle.std.proofs.Common.{map, replicate, eqb, ltb, refl, sym, ap, ◌∙◌}
use Rattle.std.proofs.Common.{subst, arith, ⊎_elim, if◌then◌else◌}
use Rattle.std.specs.Prelude.{nat_lt}
use Rattle.std.proofs.Math.Nat.{mul_comm}
use Rattle.std.proofs.lemmas.List.{ext_get_or, get_or-set_other, get_or-set_same, get_or_append_left, length-map, length-replicate, length-set}
use Rattle.std.proofs.lemmas.Bool.{cases_eq, cases_lt, eqb-true, cases_Bool, or_cases, cond-true, cond-false, lt-ltb, le-ltb, ltb-true, false≢true}
use mathlib.Core.Option.{some, some-injective}
use lib.ListN.{get_elem?}
use Rattle.atomic_table.specs.Table.{opening}
use Rattle.seat_history.proofs.Blank.{get_or_replicate_same}
use Rattle.seat_history.specs.Contents.{zeros}
use Rattle.seat_history.specs.declared.words.TheConstants.{WIDTH}
use Rattle.step_rules.specs.Cells.{IsCell, register_chain}
use Rattle.step_rules.specs.Layout.{IsPlan, backup_at, cells, claim_at, inline_at, node_at, nodes, version_at, words}
use Rattle.step_rules.specs.Nodes.{IsNode}
use Rattle.step_rules.specs.Records.{IsCounted, records_of}
use Rattle.step_rules.specs.Rule.{Holds, backup_word, claim_word, inline_words, node_words, version_word, world_of}
use Rattle.step_rules.specs.SeatData.{IsFresh}
use Rattle.step_rules.specs.Seats.{SeatOk}
use Rattle.step_rules.specs.Sound.{Sound}
use Rattle.step_rules.specs.Starts.{IsStart}
use Rattle.step_rules.specs.Untouched.{first_next, first_words}
use Rattle.step_rules.specs.Views.{count_up, number, starting, zero_node}
use Rattle.step_rules.specs.World.{Chained, Class, END, Live, Own, Once, has, link, nodes_of, Unwritten}
use Rattle.step_rules.specs.declared.layout.TheConstants.{CLAIMS, NODE_WIDTH}
use Rattle.step_rules.specs.declared.plan.Plan.{Plan}
use Rattle.step_rules.specs.declared.view.Held.{Held}
use Rattle.step_rules.specs.declared.view.View.{View}
use Rattle.step_rules.proofs.Rely.Moments.{sound_at}
use Rattle.step_rules.proofs.World.EmptyBucket.{empty_bucket}
use Rattle.step_rules.proofs.World.Frames.{inline_is, inline_wide, node_is}
use Rattle.step_rules.proofs.Keeps.Scans.{node_wide}
use Rattle.step_rules.proofs.Numbers.Sets.{has_first, length-count_up}
use Rattle.step_rules.proofs.World.Sizes.{node_within}
use Rattle.step_rules.proofs.World.Silent.{claims_quiet, no_claims, no_claims_quiet, no_claims_sound}
use Rattle.step_rules.proofs.Line.Stocks.{stock_fresh}
use Rattle.step_rules.proofs.Line.Trails.{no_trail}
use Rattle.step_rules.proofs.Rely.Readers.{reader_none}
use Rattle.step_rules.proofs.Rely.Writers.{no_versions, writer_none}

-- counting up gives the numbers of the range, each once
count_within : (m n x : ℕ) → has (count_up m n) x ≡ true → (m ≤ x) × (x < m + n)
count_within m zero x h = absurd (false≢true h)
count_within m (suc n) x h = ⊎_elim
    (λ e. let q : m ≡ x = eqb-true m x e in (omega arith, omega arith))
    (λ e. let r = count_within (suc m) n x e in (omega arith, omega arith))
    (or_cases (eqb m x) (has (count_up (suc m) n) x) h)

count_once : (m n : ℕ) → Once (count_up m n)
count_once m zero = tt
count_once m (suc n) = (⊎_elim (λ e. let r = count_within (suc m) n m e in absurd (omega arith)) (λ e. e) (cases_Bool (has (count_up (suc m) n) m)), count_once (suc m) n)

zero_nodes_of : (xs : List ℕ) → nodes_of (map zero_node xs) ≡ xs
zero_nodes_of [] = refl
zero_nodes_of (x ∷ xs) = ap (λ l. x ∷ l) (zero_nodes_of xs)

-- the first seat's nodes are those of the range, with zeros
zero_node_at : (m n i : ℕ) (h : Held) → get_elem? (map zero_node (count_up m n)) i ≡ some h → (k : ℕ) × (m ≤ k) × (k < m + n) × (zero_node k ≡ h)
zero_node_at m zero i h e = absurd cc
zero_node_at m (suc n) zero h e = (m, omega arith, omega arith, some-injective (zero_node m) h e)
zero_node_at m (suc n) (suc i) h e = let r = zero_node_at (suc m) n i h e in (r.0, omega arith, omega arith, r.3)

-- the words of a node at the start
abbrev first_node : Plan → ℕ → Held
first_node p n = record { node = n; words = first_words p n }

node_first : (p : Plan) (ws : List ℕ) (n : ℕ) → IsStart p ws → n < nodes p → node_words p ws n ≡ first_words p n
node_first p ws n start there = ext_get_or 0 (node_words p ws n) (first_words p n) (node_wide p ws n start.wide there) word
  where
    word : (j : ℕ) → j < length (node_words p ws n) → get_or (node_words p ws n) j 0 ≡ get_or (first_words p n) j 0
    word j lt = let wide = node_wide p ws n start.wide there in ⊎_elim
        (λ (below : j < WIDTH). sym (node_is p ws n j (omega arith)) ∙ (start.node n j there below
        ∙ (sym (get_or_replicate_same WIDTH j 0) ∙ sym (get_or_append_left zeros (first_next p n ∷ []) 0 j below))))
        (λ (le : WIDTH ≤ j). let is : j ≡ WIDTH = omega arith in
        ap (λ i. get_or (node_words p ws n) i 0) is ∙ (sym (node_is p ws n WIDTH (omega arith)) ∙ (start.node_next n there
        ∙ ap (λ i. get_or (first_words p n) i 0) (sym is))))
        (cases_lt j WIDTH)

-- no cell's node
pub plain_next : (p : Plan) (n : ℕ) → cells p ≤ n → first_next p n ≡ 0
plain_next p n le = ap (λ b. cond (b && not (nat_lt n p.registers)) END 0) (le-ltb n (cells p) le)

register_next : (p : Plan) (k : ℕ) → k < p.registers → first_next p k ≡ 0
register_next p k lt = ap (λ b. cond (b && not (nat_lt k p.registers)) END 0) (lt-ltb k (cells p) (omega arith)) ∙ ap (λ b. cond (not b) END 0) (lt-ltb k p.registers lt)

bucket_next : (p : Plan) (k : ℕ) → p.registers ≤ k → k < cells p → first_next p k ≡ END
bucket_next p k high lt = ap (λ b. cond (b && not (nat_lt k p.registers)) END 0) (lt-ltb k (cells p) lt) ∙ ap (λ b. cond (not b) END 0) (le-ltb k p.registers high)

start_class : Plan → ℕ → Class
start_class p n = if ltb n (cells p) then Live n else Own 0

start_chain : Plan → ℕ → List Held
start_chain p k = if ltb k (cells p) then first_node p k ∷ [] else []

start_in : (p : Plan) (n : ℕ) → n < cells p → start_class p n ≡ Live n
unfolding start_class
start_in p n lt = cond-true (ltb n (cells p)) (Live n) (Own 0) (lt-ltb n (cells p) lt)

start_out : (p : Plan) (n : ℕ) → cells p ≤ n → start_class p n ≡ Own 0
unfolding start_class
start_out p n le = cond-false (ltb n (cells p)) (Live n) (Own 0) (le-ltb n (cells p) le)

chain_in : (p : Plan) (k : ℕ) → k < cells p → start_chain p k ≡ first_node p k ∷ []
unfolding start_chain
chain_in p k lt = cond-true (ltb k (cells p)) (first_node p k ∷ []) [] (lt-ltb k (cells p) lt)

half : (k b : ℕ) → b ≡ 2 * k → b / 2 ≡ k
half k b e = omega arith

backup_first : (p : Plan) (ws : List ℕ) (k : ℕ) → IsStart p ws → k < cells p → backup_word p ws k ≡ 2 * k
backup_first p ws k start lt = cond-true (ltb k (cells p)) (get_or ws (backup_at p k) 0) 0 (lt-ltb k (cells p) lt) ∙ start.backup k lt

backup_start : (p : Plan) (ws : List ℕ) (k : ℕ) → IsStart p ws → k < cells p → backup_word p ws k / 2 ≡ k
backup_start p ws k start lt = half k (backup_word p ws k) (backup_first p ws k start lt)

pub cell_there : (p : Plan) (k : ℕ) → k < cells p → k < nodes p
unfolding nodes
cell_there p k lt = omega arith

-- what no word says at the start: the first seat holds all numbers, and has the nodes that are no cell's
abbrev start_unwritten : Plan → Unwritten
start_unwritten p = record {
  class = start_class p;
  chain = start_chain p;
  holder = λ _. 0;
  guard = λ _. 0;
  log = [];
  locker = λ _. 0;
  source = λ _ _. 0;
}

-- a register's chain is one node with zeros
start_register : (p : Plan) (ws : List ℕ) (k : ℕ) → IsStart p ws → k < p.registers → k < cells p → IsCell p (world_of p ws (start_unwritten p)) k
start_register p ws k start inside lt = record {
  head = ap (λ c. link c 0) e ∙ omega (arith, backup_start p ws k start lt);
  chained = subst (λ c. Chained (world_of p ws (start_unwritten p)) (Live k) c 0) (sym e) (start_in p k lt, words, refl, tt);
  node = λ i h q. one_at i h (ap (λ c. get_elem? c i) (sym e) ∙ q);
  records = ap records_of e ∙ sym (cond-true (ltb k p.registers) (zeros ∷ []) [] (lt-ltb k p.registers inside));
  counted = subst IsCounted (sym e) refl;
}
  where
    e : start_chain p k ≡ register_chain k zeros
    e = chain_in p k lt ∙ ap (λ x. record { node = k; words = zeros ++ x ∷ [] } ∷ []) (register_next p k inside)

    words : node_words p ws k ≡ zeros ++ 0 ∷ []
    words = node_first p ws k start (cell_there p k lt) ∙ ap (λ x. zeros ++ x ∷ []) (register_next p k inside)

    one_at : (i : ℕ) (h : Held) → get_elem? (register_chain k zeros) i ≡ some h → IsNode p h
    one_at zero h q = subst (IsNode p) (some-injective (zero_node k) h q) (record { there = cell_there p k lt; wide = length-replicate {A = ℕ} NODE_WIDTH 0 })
    one_at (suc i) h q = absurd cc

-- a bucket's is one node that says that there is no record
start_bucket : (p : Plan) (ws : List ℕ) (k : ℕ) → IsStart p ws → p.registers ≤ k → k < cells p → IsCell p (world_of p ws (start_unwritten p)) k
start_bucket p ws k start high lt = empty_bucket p (world_of p ws (start_unwritten p)) k high (cell_there p k lt) refl
    (chain_in p k lt ∙ ap (λ x. record { node = k; words = zeros ++ x ∷ [] } ∷ []) (bucket_next p k high lt))
    (start_in p k lt)
    (node_first p ws k start (cell_there p k lt) ∙ ap (λ x. zeros ++ x ∷ []) (bucket_next p k high lt))
    (backup_start p ws k start lt)

start_cell : (p : Plan) (ws : List ℕ) (k : ℕ) → IsStart p ws → k < cells p → IsCell p (world_of p ws (start_unwritten p)) k
start_cell p ws k start lt = ⊎_elim
    (λ inside. start_register p ws k start inside lt)
    (λ high. start_bucket p ws k start high lt)
    (cases_lt k p.registers)

claim_start : (p : Plan) (ws : List ℕ) (w : ℕ) → IsStart p ws → claim_word p ws w ≡ 0
claim_start p ws w start = ⊎_elim
    (λ e. cond-true (ltb w (CLAIMS * p.seats)) (get_or ws w 0) 0 e ∙ start.claim w (ltb-true w (CLAIMS * p.seats) e))
    (λ e. cond-false (ltb w (CLAIMS * p.seats)) (get_or ws w 0) 0 e)
    (cases_Bool (ltb w (CLAIMS * p.seats)))

inline_first : (p : Plan) (ws : List ℕ) (k : ℕ) → IsStart p ws → k < cells p → inline_words p ws k ≡ first_words p k
inline_first p ws k start lt = ext_get_or 0 (inline_words p ws k) (first_words p k) (inline_wide p ws k start.wide lt) word
  where
    word : (j : ℕ) → j < length (inline_words p ws k) → get_or (inline_words p ws k) j 0 ≡ get_or (first_words p k) j 0
    word j lt' = let wide = inline_wide p ws k start.wide lt in ⊎_elim
        (λ (below : j < WIDTH). sym (inline_is p ws k j lt (omega arith)) ∙ (start.inline k j lt below
        ∙ (sym (get_or_replicate_same WIDTH j 0) ∙ sym (get_or_append_left zeros (first_next p k ∷ []) 0 j below))))
        (λ (le : WIDTH ≤ j). let is : j ≡ WIDTH = omega arith in
        ap (λ i. get_or (inline_words p ws k) i 0) is ∙ (sym (inline_is p ws k WIDTH lt (omega arith)) ∙ (start.inline_next k lt
        ∙ ap (λ i. get_or (first_words p k) i 0) (sym is))))
        (cases_lt j WIDTH)

version_first : (p : Plan) (ws : List ℕ) (k : ℕ) → IsStart p ws → k < cells p → version_word p ws k ≡ 0
version_first p ws k start lt = cond-true (ltb k (cells p)) (get_or ws (version_at p k) 0) 0 (lt-ltb k (cells p) lt) ∙ start.version k lt

start_seat : (p : Plan) (ws : List ℕ) → IsStart p ws → SeatOk p (world_of p ws (start_unwritten p)) 0 (starting p)
unfolding nodes
start_seat p ws start = record {
  plan = λ _. refl;
  numbers = record { held = λ x h. refl; below = λ x h. let r = count_within 0 p.seats x h in omega arith; once = count_once 0 p.seats };
  nodes = record {
    there = λ i h e. let r = own_at i h e in subst (IsNode p) r.3 (record { there = there r.0 r.2; wide = length-replicate {A = ℕ} NODE_WIDTH 0 });
    mine = λ i h e. let r = own_at i h e in subst (λ (h : Held). start_class p h.node ≡ Own 0) r.3 (start_out p r.0 r.1);
    words = λ i h e. let r = own_at i h e in
        subst (λ (h : Held). node_words p ws h.node ≡ h.words) r.3 (node_first p ws r.0 start (there r.0 r.2) ∙ ap (λ x. zeros ++ x ∷ []) (plain_next p r.0 r.1));
    once = subst Once (sym (zero_nodes_of (count_up (cells p) (p.seats * p.share)))) (count_once (cells p) (p.seats * p.share));
    retired_once = tt;
    retired = λ n h. absurd (false≢true h);
    retired_there = λ n h. absurd (false≢true h);
  };
  stock = stock_fresh p (length (count_up 0 p.seats)) [] [] (length (starting p).own + 0) (p.removes * length (count_up 0 p.seats)) refl
      (omega (
        arith,
        length-map {A = ℕ} {B = Held} (count_up (cells p) (p.seats * p.share)) zero_node,
        length-count_up (cells p) (p.seats * p.share),
        mul_comm p.seats p.share,
        ap
            (λ n. p.share * n) (length-count_up 0 p.seats),
      )) refl;
  seen = record { rest = []; whole = refl; own = λ x h. tt };
  earlier = ([], refl);
  lawful = record {
    right = λ i s e. absurd cc;
    by = λ i s e. absurd cc;
    rising = λ i j d a b. absurd (omega arith);
    made = λ x h. refl;
    kept = λ i s e. absurd cc;
    among = λ i s e x h. absurd cc;
  };
  trail = no_trail [];
  look = record { is = λ l e. absurd cc; holds = λ l e. absurd cc };
  claims = claims_quiet p (world_of p ws (start_unwritten p)) 0 (count_up 0 p.seats) (number (starting p)) [] no_claims
      (has_first (count_up 0 p.seats)) (no_claims_sound p []) no_claims_quiet (λ x c h lt. (claim_start p ws (claim_at x c) start, refl));
  scan = record { sound = record { old = λ n h. absurd (false≢true h); counted = omega arith; within = omega arith }; found = λ w n lt e h. absurd (omega arith) };
  versions = no_versions (version_word p ws);
  reader = reader_none [];
  writer = writer_none (λ flies. flies refl) (λ k e. omega arith);
}
  where
    own_at : (i : ℕ) (h : Held) → get_elem? (map zero_node (count_up (cells p) (p.seats * p.share))) i ≡ some h
        → (k : ℕ) × (cells p ≤ k) × (k < cells p + p.seats * p.share) × (zero_node k ≡ h)
    own_at i h e = zero_node_at (cells p) (p.seats * p.share) i h e

    there : (k : ℕ) → k < cells p + p.seats * p.share → k < nodes p
    there k lt = omega arith

pub opens : (p : Plan) (ws : List ℕ) → IsPlan p → IsStart p ws → Holds p (opening ws [] (starting p))
opens p ws plan start = record {
  unwritten = start_unwritten p;
  at = record {
    plan = plan;
    wide = start.wide;
    history = record { each = λ i e q. absurd cc };
    cells = record { cell = λ k lt. start_cell p ws k start lt };
    guards = record { named = λ w n e. absurd (omega arith); within = λ w n e. absurd (omega arith) };
    seats = one;
    versions = λ k lt. let even = version_first p ws k start lt in record {
      locked = λ odd. absurd (omega arith);
      dated = λ u. omega arith;
      passed = λ u is low. absurd (omega arith);
      copied = λ is none. inline_first p ws k start lt ∙ sym (ap (node_words p ws) (backup_start p ws k start lt) ∙ node_first p ws k start (cell_there p k lt));
      settled = λ is. (omega arith, tt);
      untouched = λ none. record {
        version_is = even;
        backup_is = backup_first p ws k start lt;
        inline_are = inline_first p ws k start lt;
        node_are = node_first p ws k start (cell_there p k lt);
      };
    };
    lockers = λ k s e. omega arith;
    budget = omega (arith, mul_comm p.seats p.changes, ap (λ n. p.changes * n) (length-count_up 0 p.seats));
  };
}
  where
    one : (s : ℕ) (v : View) → get_elem? (starting p ∷ []) s ≡ some v → SeatOk p (world_of p ws (start_unwritten p)) s v
    one zero v e = subst (SeatOk p (world_of p ws (start_unwritten p)) 0) (some-injective (starting p) v e) (start_seat p ws start)
    one (suc s) v e = absurd cc

-- what the first seat knows
pub starts_sound : (p : Plan) (ws : List ℕ) → IsPlan p → IsStart p ws → Sound (starting p)
starts_sound p ws plan start = let h = opens p ws plan start in
    sound_at ws (starting p ∷ []) h.unwritten 0 (starting p) h.at refl (let n = plan.seats.0 in omega (arith, length-count_up 0 p.seats))

pub number_first : (n : ℕ) → get_or (count_up 0 n) 0 0 ≡ 0
number_first zero = refl
number_first (suc n) = refl

-- the first seat made no step
pub starts_fresh : (p : Plan) (free holding : List ℕ) → free ≡ count_up (cells p) (p.seats * p.share) → holding ≡ [] → IsFresh (starting p) free holding
starts_fresh p free holding all none = record {
  numbers = λ i. count_up (sym (number_first p.seats) i) (sym (length-count_up 0 p.seats) i);
  free = all ∙ sym (zero_nodes_of (count_up (cells p) (p.seats * p.share)));
  holding = none;
  retired = refl;
  seen = refl;
  stands = refl;
  trail = refl;
  claims = refl;
  scan = refl;
  changes = refl;
  removes = refl;
}

-- the place i isn't one of those that are set for the cell k
pub record IsElse (p : Plan) (k i : ℕ) : Type 0 where
  pub backup : i ≢ backup_at p k
  pub inline_next : i ≢ inline_at p k WIDTH
  pub node_next : i ≢ node_at p k WIDTH

-- the words while the cells are set: those of the first n are
pub record IsSet (p : Plan) (ws : List ℕ) (n : ℕ) : Type 0 where
  pub wide : length ws ≡ words p
  pub backup : (k : ℕ) → k < n → get_or ws (backup_at p k) 0 ≡ 2 * k
  pub inline_next : (k : ℕ) → k < n → get_or ws (inline_at p k WIDTH) 0 ≡ first_next p k
  pub node_next : (k : ℕ) → k < n → get_or ws (node_at p k WIDTH) 0 ≡ first_next p k
  pub rest : (i : ℕ) → ((k : ℕ) → k < n → IsElse p k i) → get_or ws i 0 ≡ 0

pub none_set : (p : Plan) (ws : List ℕ) → ws ≡ replicate (words p) 0 → IsSet p ws 0
none_set p ws e = record {
  wide = ap (length {A = ℕ}) e ∙ length-replicate {A = ℕ} (words p) 0;
  backup = λ k lt. absurd (omega arith);
  inline_next = λ k lt. absurd (omega arith);
  node_next = λ k lt. absurd (omega arith);
  rest = λ i apart. ap (λ l. get_or l i 0) e ∙ get_or_replicate_same (words p) i 0;
}

-- three words at different places are set
three_set : List ℕ → (a b c x y z : ℕ) → List ℕ
three_set ws a b c x y z = set (set (set ws a x) b y) c z

three_else : (ws : List ℕ) (a b c x y z i : ℕ) → i ≢ a → i ≢ b → i ≢ c → get_or (three_set ws a b c x y z) i 0 ≡ get_or ws i 0
unfolding three_set
three_else ws a b c x y z i ne_a ne_b ne_c = get_or-set_other (set (set ws a x) b y) c i z 0 ne_c
    ∙ (get_or-set_other (set ws a x) b i y 0 ne_b ∙ get_or-set_other ws a i x 0 ne_a)

three_first : (ws : List ℕ) (a b c x y z : ℕ) → a < length ws → a ≢ b → a ≢ c → get_or (three_set ws a b c x y z) a 0 ≡ x
unfolding three_set
three_first ws a b c x y z room ne_b ne_c = get_or-set_other (set (set ws a x) b y) c a z 0 ne_c
    ∙ (get_or-set_other (set ws a x) b a y 0 ne_b ∙ get_or-set_same ws a x 0 room)

three_second : (ws : List ℕ) (a b c x y z : ℕ) → b < length ws → b ≢ c → get_or (three_set ws a b c x y z) b 0 ≡ y
unfolding three_set
three_second ws a b c x y z room ne_c = get_or-set_other (set (set ws a x) b y) c b z 0 ne_c
    ∙ get_or-set_same (set ws a x) b y 0 (omega (arith, length-set ws a x))

three_third : (ws : List ℕ) (a b c x y z : ℕ) → c < length ws → get_or (three_set ws a b c x y z) c 0 ≡ z
unfolding three_set
three_third ws a b c x y z room = get_or-set_same (set (set ws a x) b y) c z 0 (omega (arith, length-set ws a x, length-set (set ws a x) b y))

three_long : (ws : List ℕ) (a b c x y z : ℕ) → length (three_set ws a b c x y z) ≡ length ws
unfolding three_set
three_long ws a b c x y z = length-set (set (set ws a x) b y) c z ∙ (length-set (set ws a x) b y ∙ length-set ws a x)

pub one_set : (p : Plan) (ws ws' : List ℕ) (n a b c x y : ℕ) → IsSet p ws n → n < cells p
    → a ≡ backup_at p n → b ≡ inline_at p n WIDTH → c ≡ node_at p n WIDTH → x ≡ 2 * n → y ≡ first_next p n → ws' ≡ set (set (set ws a x) b y) c y → IsSet p ws' (n + 1)
unfolding three_set
one_set p ws ws' n a b c x y s inside at_a at_b at_c is_x is_y after =
    let long = s.wide in
    let there = cell_there p n inside in
    let room = node_within p n WIDTH there (omega arith) in
    let more : ws' ≡ three_set ws (backup_at p n) (inline_at p n WIDTH) (node_at p n WIDTH) (2 * n) (first_next p n) (first_next p n) =
    after ∙ (λ i. set (set (set ws (at_a i) (is_x i)) (at_b i) (is_y i)) (at_c i) (is_y i)) in
    subst (λ l. IsSet p l (n + 1)) (sym more) (set_more p ws n s inside room)
  where
    set_more : (p : Plan) (ws : List ℕ) (n : ℕ) → IsSet p ws n → n < cells p → node_at p n WIDTH < words p
        → IsSet p (three_set ws (backup_at p n) (inline_at p n WIDTH) (node_at p n WIDTH) (2 * n) (first_next p n) (first_next p n)) (n + 1)
    set_more p ws n s inside room = let long = s.wide in record {
      wide = three_long ws (backup_at p n) (inline_at p n WIDTH) (node_at p n WIDTH) (2 * n) (first_next p n) (first_next p n) ∙ s.wide;
      backup = λ k lt. ⊎_elim
          (λ e. subst (λ j. get_or (three_set ws (backup_at p n) (inline_at p n WIDTH) (node_at p n WIDTH) (2 * n) (first_next p n) (first_next p n)) (backup_at p j) 0 ≡ 2 * j) e
          (three_first ws (backup_at p n) (inline_at p n WIDTH) (node_at p n WIDTH) (2 * n) (first_next p n) (first_next p n) (omega arith) (λ q. omega arith) (λ q. omega arith)))
          (λ ne. three_else ws (backup_at p n) (inline_at p n WIDTH) (node_at p n WIDTH) (2 * n) (first_next p n) (first_next p n) (backup_at p k) (λ q. omega arith) (λ q. omega arith)
          (λ q. omega arith)
          ∙ s.backup k (omega arith))
          (cases_eq n k);
      inline_next = λ k lt. ⊎_elim
          (λ e. subst (λ j. get_or (three_set ws (backup_at p n) (inline_at p n WIDTH) (node_at p n WIDTH) (2 * n) (first_next p n) (first_next p n)) (inline_at p j WIDTH) 0 ≡ first_next p j) e
          (three_second ws (backup_at p n) (inline_at p n WIDTH) (node_at p n WIDTH) (2 * n) (first_next p n) (first_next p n) (omega arith) (λ q. omega arith)))
          (λ ne. three_else ws (backup_at p n) (inline_at p n WIDTH) (node_at p n WIDTH) (2 * n) (first_next p n) (first_next p n) (inline_at p k WIDTH) (λ q. omega arith)
          (λ q. omega arith) (λ q. omega arith)
          ∙ s.inline_next k (omega arith))
          (cases_eq n k);
      node_next = λ k lt. ⊎_elim
          (λ e. subst (λ j. get_or (three_set ws (backup_at p n) (inline_at p n WIDTH) (node_at p n WIDTH) (2 * n) (first_next p n) (first_next p n)) (node_at p j WIDTH) 0 ≡ first_next p j) e
          (three_third ws (backup_at p n) (inline_at p n WIDTH) (node_at p n WIDTH) (2 * n) (first_next p n) (first_next p n) (omega arith)))
          (λ ne. three_else ws (backup_at p n) (inline_at p n WIDTH) (node_at p n WIDTH) (2 * n) (first_next p n) (first_next p n) (node_at p k WIDTH) (λ q. omega arith) (λ q. omega arith)
          (λ q. omega arith)
          ∙ s.node_next k (omega arith))
          (cases_eq n k);
      rest = λ i apart. let here = apart n (omega arith) in
          three_else ws (backup_at p n) (inline_at p n WIDTH) (node_at p n WIDTH) (2 * n) (first_next p n) (first_next p n) i here.backup here.inline_next here.node_next
          ∙ s.rest i (λ k lt. apart k (omega arith));
    }

pub all_set : (p : Plan) (ws : List ℕ) (n : ℕ) → n ≡ cells p → IsSet p ws n → IsStart p ws
all_set p ws n all s = record {
  wide = s.wide;
  version = λ k lt. s.rest (version_at p k) (λ m below. record { backup = λ e. omega arith; inline_next = λ e. omega arith; node_next = λ e. omega arith });
  backup = λ k lt. s.backup k (omega arith);
  inline = λ k j lt inside. s.rest (inline_at p k j) (λ m below. record { backup = λ e. omega arith; inline_next = λ e. omega arith; node_next = λ e. omega arith });
  inline_next = λ k lt. s.inline_next k (omega arith);
  node = λ k j there inside. s.rest (node_at p k j) (λ m below. record { backup = λ e. omega arith; inline_next = λ e. omega arith; node_next = λ e. omega arith });
  node_next = λ k there. ⊎_elim
      (λ lt. s.node_next k (omega arith))
      (λ le. s.rest (node_at p k WIDTH) (λ m below. record { backup = λ e. omega arith; inline_next = λ e. omega arith; node_next = λ e. omega arith }) ∙ sym (plain_next p k le))
      (cases_lt k (cells p));
  claim = λ w lt. s.rest w (λ m below. record { backup = λ e. omega arith; inline_next = λ e. omega arith; node_next = λ e. omega arith });
}
