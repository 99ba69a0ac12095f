-- What a store to one word leaves of the words of nodes, cells and claims.
use Rattle.std.proofs.Common.{◌≡◌, ◌≢◌, ℕ, ◌+◌, ◌*◌, ◌-◌, ◌<◌, ◌≤◌, Bool, true, false, List, [], length, take, drop, set, get_or, ltb, cond, eqb, ne_eqb, refl}
use Rattle.std.proofs.Common.{sym, ap, ◌∙◌, arith, ◌⊎◌}
use Rattle.std.proofs.Common.{⊎_elim, inl, inr, mul-le-mul_left, mul-suc}
use Rattle.std.proofs.lemmas.Bool.{cases_eq, cases_lt, cond-false, cond-true, lt-ltb, ltb-true}
use Rattle.std.proofs.lemmas.List.{length-drop, length-take-le, get_or-drop, get_or-set_same, get_or-set_other, get_or-take, take-set-le, drop-set-lt, drop-set-add}
use Rattle.std.proofs.Math.Seq.{take-set-lt}
use Rattle.seat_history.proofs.Changed.{set_at_here}
use Rattle.seat_history.specs.Contents.{set_at}
use Rattle.step_rules.specs.Layout.{backup_at, cells, claim_at, inline_at, node_at, nodes_at, version_at, words}
use Rattle.step_rules.specs.Rule.{backup_word, claim_word, inline_words, node_words, version_word}
use Rattle.step_rules.specs.declared.layout.TheConstants.{CLAIMS, NODE_WIDTH}
use Rattle.step_rules.specs.declared.plan.Plan.{Plan}

-- a function with another value at n
pub set_at_else : {X : Type 0} (f : ℕ → X) (n m : ℕ) (x : X) → m ≢ n → set_at f n x m ≡ f m
set_at_else f n m x ne = cond-false (eqb n m) x (f m) (ne_eqb n m (λ e. ne (sym e)))

-- a function that has this value at n, and is f elsewhere
pub is_set : {X : Type 0} (f g : ℕ → X) (n : ℕ) (x : X) → g n ≡ x → ((m : ℕ) → m ≢ n → g m ≡ f m) → g ≡ set_at f n x
is_set f g n x here else = λ i m. point m i
  where
    point : (m : ℕ) → g m ≡ set_at f n x m
    point m = ⊎_elim (λ e. ap g e ∙ (here ∙ sym (ap (set_at f n x) e ∙ set_at_here f n x))) (λ ne. else m ne ∙ sym (set_at_else f n m x ne)) (cases_eq m n)

-- a choice whose one part becomes another that is the same
pub either_part : {A : Type 0} (b : Bool) {x y : A} (z : A) → (b ≡ true → x ≡ y) → cond b x z ≡ cond b y z
either_part true z e = e refl
either_part false z e = refl

-- the n words from the place a on, after a store elsewhere
words_else : (ws : List ℕ) (a n i x : ℕ) → (i < a) ⊎ (a + n ≤ i) → take n (drop a (set ws i x)) ≡ take n (drop a ws)
words_else ws a n i x apart = ⊎_elim
    (λ lt. ap (take n) (drop-set-lt a ws i x lt))
    (λ le. let k : ℕ = i - a in let e : i ≡ a + k = omega arith in
    ap (λ j. take n (drop a (set ws j x))) e ∙ (ap (take n) (drop-set-add a ws k x) ∙ take-set-le n (drop a ws) k x (omega arith)))
    apart

-- and after a store to one of them
words_here : (ws : List ℕ) (a n j x : ℕ) → j < n → take n (drop a (set ws (a + j) x)) ≡ set (take n (drop a ws)) j x
words_here ws a n j x lt = ap (take n) (drop-set-add a ws j x) ∙ take-set-lt n (drop a ws) j x lt

-- what a load of one of them finds
pub words_at_place : (ws : List ℕ) (a n j : ℕ) → j < n → get_or ws (a + j) 0 ≡ get_or (take n (drop a ws)) j 0
words_at_place ws a n j lt = sym (get_or-take n (drop a ws) j 0 lt ∙ get_or-drop a ws j 0)

-- K words each: the words of m end before those of n begin
pub past : (K m n : ℕ) → m < n → K * m + K ≤ K * n
past K m n lt = omega (arith, mul-le-mul_left K lt, mul-suc K m)

-- words below the nodes
pub node_low : (p : Plan) (ws : List ℕ) (i x n : ℕ) → i < nodes_at p → node_words p (set ws i x) n ≡ node_words p ws n
node_low p ws i x n lt = words_else ws (nodes_at p + NODE_WIDTH * n) NODE_WIDTH i x (inl (omega arith))

pub node_else : (p : Plan) (ws : List ℕ) (n m j x : ℕ) → m ≢ n → j < NODE_WIDTH → node_words p (set ws (node_at p n j) x) m ≡ node_words p ws m
node_else p ws n m j x ne lt = words_else ws (nodes_at p + NODE_WIDTH * m) NODE_WIDTH (node_at p n j) x (⊎_elim
    (λ h. inr (omega (arith, past NODE_WIDTH m n h)))
    (λ h. inl (omega (arith, past NODE_WIDTH n m (omega arith))))
    (cases_lt m n))

pub node_here : (p : Plan) (ws : List ℕ) (n j x : ℕ) → j < NODE_WIDTH → node_words p (set ws (node_at p n j) x) n ≡ set (node_words p ws n) j x
node_here p ws n j x lt = words_here ws (nodes_at p + NODE_WIDTH * n) NODE_WIDTH j x lt

-- what a load of a node finds
pub node_is : (p : Plan) (ws : List ℕ) (n j : ℕ) → j < NODE_WIDTH → get_or ws (node_at p n j) 0 ≡ get_or (node_words p ws n) j 0
node_is p ws n j inside = words_at_place ws (nodes_at p + NODE_WIDTH * n) NODE_WIDTH j inside

-- the word at the place j of a region that has a word for each of n places, after a store elsewhere
word_else : (ws : List ℕ) (n k j i x : ℕ) → (k < n → j ≢ i) → cond (ltb k n) (get_or (set ws i x) j 0) 0 ≡ cond (ltb k n) (get_or ws j 0) 0
word_else ws n k j i x ne = either_part (ltb k n) 0 (λ e. get_or-set_other ws i j x 0 (ne (ltb-true k n e)))

-- and after a store there
word_here : (ws : List ℕ) (n k i x : ℕ) → k < n → i < length ws → cond (ltb k n) (get_or (set ws i x) i 0) 0 ≡ x
word_here ws n k i x lt room = cond-true (ltb k n) (get_or (set ws i x) i 0) 0 (lt-ltb k n lt) ∙ get_or-set_same ws i x 0 room

-- what a load of it finds
word_is : (ws : List ℕ) (n k i : ℕ) → k < n → get_or ws i 0 ≡ cond (ltb k n) (get_or ws i 0) 0
word_is ws n k i lt = sym (cond-true (ltb k n) (get_or ws i 0) 0 (lt-ltb k n lt))

-- a store elsewhere than in the backup of the cell k
pub backup_else : (p : Plan) (ws : List ℕ) (i x k : ℕ) → (k < cells p → backup_at p k ≢ i) → backup_word p (set ws i x) k ≡ backup_word p ws k
backup_else p ws i x k ne = word_else ws (cells p) k (backup_at p k) i x ne

pub backup_here : (p : Plan) (ws : List ℕ) (k x : ℕ) → k < cells p → nodes_at p ≤ length ws → backup_word p (set ws (backup_at p k) x) k ≡ x
backup_here p ws k x lt room = word_here ws (cells p) k (backup_at p k) x lt (omega arith)

-- what a load of the backup of the cell k finds
pub backup_is : (p : Plan) (ws : List ℕ) (k : ℕ) → k < cells p → get_or ws (backup_at p k) 0 ≡ backup_word p ws k
backup_is p ws k lt = word_is ws (cells p) k (backup_at p k) lt

-- likewise of the version of the cell k
pub version_else : (p : Plan) (ws : List ℕ) (i x k : ℕ) → (k < cells p → version_at p k ≢ i) → version_word p (set ws i x) k ≡ version_word p ws k
version_else p ws i x k ne = word_else ws (cells p) k (version_at p k) i x ne

pub version_here : (p : Plan) (ws : List ℕ) (k x : ℕ) → k < cells p → nodes_at p ≤ length ws → version_word p (set ws (version_at p k) x) k ≡ x
version_here p ws k x lt room = word_here ws (cells p) k (version_at p k) x lt (omega arith)

pub version_is : (p : Plan) (ws : List ℕ) (k : ℕ) → k < cells p → get_or ws (version_at p k) 0 ≡ version_word p ws k
version_is p ws k lt = word_is ws (cells p) k (version_at p k) lt

-- and of its inline words
pub inline_else : (p : Plan) (ws : List ℕ) (i x k : ℕ) → (k < cells p → (i < version_at p k + 2) ⊎ (inline_at p k NODE_WIDTH ≤ i)) → inline_words p (set ws i x) k ≡ inline_words p ws k
inline_else p ws i x k apart = either_part (ltb k (cells p)) [] (λ e. words_else ws (version_at p k + 2) NODE_WIDTH i x (apart (ltb-true k (cells p) e)))

pub inline_here : (p : Plan) (ws : List ℕ) (k j x : ℕ) → k < cells p → j < NODE_WIDTH → inline_words p (set ws (inline_at p k j) x) k ≡ set (inline_words p ws k) j x
inline_here p ws k j x lt inside =
    let t = lt-ltb k (cells p) lt in
    cond-true (ltb k (cells p)) (take NODE_WIDTH (drop (version_at p k + 2) (set ws (inline_at p k j) x))) [] t
    ∙ (words_here ws (version_at p k + 2) NODE_WIDTH j x inside
    ∙ ap (λ l. set l j x) (sym (cond-true (ltb k (cells p)) (take NODE_WIDTH (drop (version_at p k + 2) ws)) [] t)))

pub inline_is : (p : Plan) (ws : List ℕ) (k j : ℕ) → k < cells p → j < NODE_WIDTH → get_or ws (inline_at p k j) 0 ≡ get_or (inline_words p ws k) j 0
inline_is p ws k j lt inside = words_at_place ws (version_at p k + 2) NODE_WIDTH j inside
    ∙ ap (λ l. get_or l j 0) (sym (cond-true (ltb k (cells p)) (take NODE_WIDTH (drop (version_at p k + 2) ws)) [] (lt-ltb k (cells p) lt)))

-- a cell has as many inline words as a node has words
pub inline_wide : (p : Plan) (ws : List ℕ) (k : ℕ) → length ws ≡ words p → k < cells p → length (inline_words p ws k) ≡ NODE_WIDTH
inline_wide p ws k wide lt =
    ap (length {A = ℕ}) (cond-true (ltb k (cells p)) (take NODE_WIDTH (drop (version_at p k + 2) ws)) [] (lt-ltb k (cells p) lt))
    ∙ length-take-le NODE_WIDTH (drop (version_at p k + 2) ws) (omega (arith, length-drop (version_at p k + 2) ws, past (NODE_WIDTH + 2) k (cells p) lt))

-- a store elsewhere than in the claim word w
pub claim_else : (p : Plan) (ws : List ℕ) (i x w : ℕ) → (w < CLAIMS * p.seats → w ≢ i) → claim_word p (set ws i x) w ≡ claim_word p ws w
claim_else p ws i x w ne = word_else ws (CLAIMS * p.seats) w w i x ne

pub claim_here : (p : Plan) (ws : List ℕ) (w x : ℕ) → w < CLAIMS * p.seats → CLAIMS * p.seats ≤ length ws → claim_word p (set ws w x) w ≡ x
claim_here p ws w x lt room = word_here ws (CLAIMS * p.seats) w w x lt (omega arith)

-- what a load of the claim word w finds
pub claim_is : (p : Plan) (ws : List ℕ) (w : ℕ) → w < CLAIMS * p.seats → get_or ws w 0 ≡ claim_word p ws w
claim_is p ws w lt = word_is ws (CLAIMS * p.seats) w w lt

-- a place is one node's one word
pub one_place : (p : Plan) (n j m k : ℕ) → node_at p n j ≡ node_at p m k → j < NODE_WIDTH → k < NODE_WIDTH → (n ≡ m) × (j ≡ k)
one_place p n j m k e a b = (omega arith, omega arith)

-- a place is one cell's backup
pub one_cell : (p : Plan) (i k : ℕ) → backup_at p i ≡ backup_at p k → i ≡ k
one_cell p i k e = omega arith

-- a place is one number's one claim word
pub one_claim : (x c y d : ℕ) → claim_at x c ≡ claim_at y d → c < CLAIMS → d < CLAIMS → (x ≡ y) × (c ≡ d)
one_claim x c y d e a b = (omega arith, omega arith)

-- a place is one cell's version, or one of its inline words
pub one_version : (p : Plan) (i k : ℕ) → version_at p i ≡ version_at p k → i ≡ k
one_version p i k e = omega arith

pub one_inline : (p : Plan) (i a k b : ℕ) → inline_at p i a ≡ inline_at p k b → a < NODE_WIDTH → b < NODE_WIDTH → (i ≡ k) × (a ≡ b)
one_inline p i a k b e lt lt' = (omega arith, omega arith)

-- what a store to a version or an inline word leaves
pub record OthersStay (p : Plan) (ws ws' : List ℕ) : Type 0 where
  pub claim : (w : ℕ) → claim_word p ws' w ≡ claim_word p ws w
  pub backup : (k : ℕ) → backup_word p ws' k ≡ backup_word p ws k
  pub node : (n : ℕ) → node_words p ws' n ≡ node_words p ws n

-- what a store to any other word leaves
pub record CellsStay (p : Plan) (ws ws' : List ℕ) : Type 0 where
  pub version : (k : ℕ) → version_word p ws' k ≡ version_word p ws k
  pub inline : (k : ℕ) → inline_words p ws' k ≡ inline_words p ws k

pub version_store : (p : Plan) (ws : List ℕ) (k x : ℕ) → k < cells p → OthersStay p ws (set ws (version_at p k) x)
version_store p ws k x lt = record {
  claim = λ w. claim_else p ws (version_at p k) x w (λ below e. omega arith);
  backup = λ j. backup_else p ws (version_at p k) x j (λ below e. omega arith);
  node = λ n. node_low p ws (version_at p k) x n (omega arith);
}

pub inline_store : (p : Plan) (ws : List ℕ) (k i x : ℕ) → k < cells p → i < NODE_WIDTH → OthersStay p ws (set ws (inline_at p k i) x)
inline_store p ws k i x lt inside = record {
  claim = λ w. claim_else p ws (inline_at p k i) x w (λ below e. omega arith);
  backup = λ j. backup_else p ws (inline_at p k i) x j (λ below e. omega arith);
  node = λ n. node_low p ws (inline_at p k i) x n (omega arith);
}

-- the cells' inline words stay where a version is stored, and the other way round
pub version_keeps_inline : (p : Plan) (ws : List ℕ) (k x j : ℕ) → inline_words p (set ws (version_at p k) x) j ≡ inline_words p ws j
version_keeps_inline p ws k x j = inline_else p ws (version_at p k) x j (λ _. ⊎_elim (λ lt. inr (omega arith)) (λ le. inl (omega arith)) (cases_lt j k))

pub inline_keeps_version : (p : Plan) (ws : List ℕ) (k i x j : ℕ) → i < NODE_WIDTH → version_word p (set ws (inline_at p k i) x) j ≡ version_word p ws j
inline_keeps_version p ws k i x j inside = version_else p ws (inline_at p k i) x j (λ below e. omega arith)

pub claim_store : (p : Plan) (ws : List ℕ) (w x : ℕ) → w < CLAIMS * p.seats → CellsStay p ws (set ws w x)
claim_store p ws w x lt = record {
  version = λ j. version_else p ws w x j (λ below e. omega arith);
  inline = λ j. inline_else p ws w x j (λ below. inl (omega arith));
}

pub backup_store : (p : Plan) (ws : List ℕ) (k x : ℕ) → CellsStay p ws (set ws (backup_at p k) x)
backup_store p ws k x = record {
  version = λ j. version_else p ws (backup_at p k) x j (λ below e. omega arith);
  inline = λ j. inline_else p ws (backup_at p k) x j (λ _. ⊎_elim (λ lt. inr (omega arith)) (λ le. inl (omega arith)) (cases_lt j k));
}

pub node_store : (p : Plan) (ws : List ℕ) (n j x : ℕ) → CellsStay p ws (set ws (node_at p n j) x)
node_store p ws n j x = record {
  version = λ k. version_else p ws (node_at p n j) x k (λ below e. omega arith);
  inline = λ k. inline_else p ws (node_at p n j) x k (λ below. inr (omega arith));
}
