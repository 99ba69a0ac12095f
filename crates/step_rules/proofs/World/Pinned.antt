-- The rule at the start, of a table whose one seat is the first, is met by the words of the start alone.
use Rattle.std.proofs.Common.{◌≡◌, ◌∙◌, ℕ, ◌+◌, ◌*◌, ◌-◌, ◌/◌, ◌%◌, ◌<◌, ◌≤◌, suc, zero, true, List, [], ◌∷◌, map, get_or, refl, sym, ap, subst, arith, ⊎_elim}
use Rattle.std.proofs.lemmas.Bool.{cases_eq, cases_lt, cond-true, lt-ltb}
use Rattle.std.proofs.lemmas.List.{get_or_append_left}
use mathlib.Core.Option.{some}
use lib.ListN.{get_elem?}
use Rattle.atomic_table.specs.Table.{opening}
use Rattle.seat_history.proofs.Blank.{get_or_replicate_same}
use Rattle.seat_history.specs.Contents.{zeros}
use Rattle.seat_history.specs.declared.entry.Entry.{Entry}
use Rattle.seat_history.specs.declared.words.TheConstants.{WIDTH}
use Rattle.step_rules.specs.History.{NoneBy, NoneOn}
use Rattle.step_rules.specs.Layout.{backup_at, cells, claim_at, node_at, nodes, version_at}
use Rattle.step_rules.specs.Rule.{Holds, HoldsAt, backup_word, claim_word, inline_words, node_words, version_word, world_of}
use Rattle.step_rules.specs.Seats.{SeatOk}
use Rattle.step_rules.specs.Starts.{IsStart}
use Rattle.step_rules.specs.Untouched.{IsUntouched, first_next, first_words}
use Rattle.step_rules.specs.Views.{count_up, number, silent, starting, zero_node}
use Rattle.step_rules.specs.World.{Unwritten, World, has}
use Rattle.step_rules.specs.declared.layout.TheConstants.{CLAIMS, NODE_WIDTH}
use Rattle.step_rules.specs.declared.plan.Plan.{Plan}
use Rattle.step_rules.proofs.Numbers.Sets.{any_number, has_count}
use Rattle.step_rules.proofs.Rely.Advance.{claim_found}
use Rattle.step_rules.proofs.World.Frames.{inline_is, node_is}
use Rattle.step_rules.proofs.World.Opens.{plain_next}

-- the first seat has each node that is no cell's
free_at : (m n i : ℕ) → i < n → get_elem? (map zero_node (count_up m n)) i ≡ some (zero_node (m + i))
free_at m zero i lt = absurd (omega arith)
free_at m (suc n) zero lt = let e : m ≡ m + 0 = omega arith in ap (λ x. some (zero_node x)) e
free_at m (suc n) (suc i) lt = let e : suc m + i ≡ m + suc i = omega arith in free_at (suc m) n i (omega arith) ∙ ap (λ x. some (zero_node x)) e

-- a word of those of the start
record_word : (p : Plan) (n j : ℕ) → j < WIDTH → get_or (first_words p n) j 0 ≡ 0
record_word p n j lt = get_or_append_left zeros (first_next p n ∷ []) 0 j lt ∙ get_or_replicate_same WIDTH j 0

module _ (p : Plan) (ws : List ℕ) (U : Unwritten) (h : HoldsAt p ws (starting p ∷ []) U) where
  abbrev W : World
  W = world_of p ws U

  o : SeatOk p W 0 (starting p)
  o = h.seats 0 (starting p) refl

  -- the seat has all numbers and has seen nothing, so nothing has happened
  nothing : (rest : List Entry) → U.log ≡ rest → ((x : ℕ) → has (count_up 0 p.seats) x ≡ true → NoneBy x rest) → U.log ≡ []
  nothing [] whole none = whole
  nothing (e ∷ rest) whole none =
      let low : e.caller < p.seats = (h.history.each 0 e (ap (λ (l : List Entry). get_elem? l 0) whole)).caller in
      absurd ((none e.caller (has_count 0 p.seats e.caller (omega arith) (omega arith))).0 refl)

  none_on : (k : ℕ) → NoneOn p k U.log
  none_on k = subst (NoneOn p k) (sym (nothing o.seen.rest o.seen.whole o.seen.own)) tt

  untouched : (k : ℕ) → k < cells p → IsUntouched p k (version_word p ws k) (backup_word p ws k) (inline_words p ws k) (node_words p ws k)
  untouched k lt = (h.versions k lt).untouched (none_on k)

  -- a node that is no cell's has zeros
  free_words : (n : ℕ) → n < nodes p → cells p ≤ n → node_words p ws n ≡ (zero_node n).words
  unfolding nodes
  free_words n there high =
      let is : cells p + (n - cells p) ≡ n = omega arith in
      subst (λ m. node_words p ws m ≡ (zero_node m).words) is
      (o.nodes.words (n - cells p) (zero_node (cells p + (n - cells p))) (free_at (cells p) (p.seats * p.share) (n - cells p) (omega arith)))

  node_word : (n j : ℕ) → n < nodes p → j < NODE_WIDTH → get_or ws (node_at p n j) 0 ≡ get_or (node_words p ws n) j 0
  node_word n j there inside = node_is p ws n j inside

  claim_zero : (x c : ℕ) → x < p.seats → c < CLAIMS → claim_word p ws (claim_at x c) ≡ 0
  claim_zero x c lt inside =
      let mine = has_count 0 p.seats x (omega arith) (omega arith) in
      ⊎_elim
      (λ e. ap (λ y. claim_word p ws (claim_at y c)) e ∙ o.claims.word c (silent 0) (any_number (count_up 0 p.seats) x mine) (claim_found o.claims c inside
      ∙ ap some (get_or_replicate_same CLAIMS c (silent 0))))
      (λ ne. (o.claims.others x c mine ne inside).0)
      (cases_eq x (number (starting p)))

  pub pins : IsStart p ws
  pins = record {
    wide = h.wide;
    version = λ k lt. sym (cond-true _ (get_or ws (version_at p k) 0) 0 (lt-ltb k (cells p) lt)) ∙ (untouched k lt).version_is;
    backup = λ k lt. sym (cond-true _ (get_or ws (backup_at p k) 0) 0 (lt-ltb k (cells p) lt)) ∙ (untouched k lt).backup_is;
    inline = λ k j lt below. inline_is p ws k j lt (omega arith) ∙ (ap (λ l. get_or l j 0) (untouched k lt).inline_are ∙ record_word p k j below);
    inline_next = λ k lt. inline_is p ws k WIDTH lt (omega arith) ∙ ap (λ l. get_or l WIDTH 0) (untouched k lt).inline_are;
    node = λ n j there below. node_is p ws n j (omega arith) ∙ ⊎_elim
        (λ lt. ap (λ l. get_or l j 0) (untouched n lt).node_are ∙ record_word p n j below)
        (λ high. ap (λ l. get_or l j 0) (free_words n there high) ∙ get_or_replicate_same NODE_WIDTH j 0)
        (cases_lt n (cells p));
    node_next = λ n there. node_is p ws n WIDTH (omega arith) ∙ ⊎_elim
        (λ lt. ap (λ l. get_or l WIDTH 0) (untouched n lt).node_are)
        (λ high. ap (λ l. get_or l WIDTH 0) (free_words n there high) ∙ (get_or_replicate_same NODE_WIDTH WIDTH 0 ∙ sym (plain_next p n high)))
        (cases_lt n (cells p));
    claim = λ w lt.
        let is : claim_at (w / 4) (w % 4) ≡ w = omega arith in
        sym (cond-true _ (get_or ws w 0) 0 (lt-ltb w (CLAIMS * p.seats) lt))
        ∙ (ap (claim_word p ws) (sym is) ∙ claim_zero (w / 4) (w % 4) (omega arith) (omega arith));
  }

pub start_pinned : (p : Plan) (ws : List ℕ) → Holds p (opening ws [] (starting p)) → IsStart p ws
start_pinned p ws holds = pins p ws holds.unwritten holds.at
