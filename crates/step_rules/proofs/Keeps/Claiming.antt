-- CLAIM STORE, CLAIM CLEAR and RECHECK keep the rule.
use Rattle.std.proofs.Common.{◌≡◌, ◌≢◌, ℕ, ◌+◌, ◌*◌, ◌/◌, ◌<◌, List, [], ◌∷◌, ◌++◌, length, set, eqb, eq-eqb, ne_eqb, refl, sym, ap, ◌∙◌, subst}
use Rattle.std.proofs.Common.{arith, ⊎_elim, le_refl}
use Rattle.std.proofs.Math.Seq.{drop-length}
use Rattle.std.proofs.lemmas.Bool.{cases_eq, cond-true, cond-false}
use Rattle.std.proofs.lemmas.List.{get_or-set_same, length-set, take_all}
use mathlib.Core.Option.{none}
use Rattle.atomic_table.specs.Table.{step, Allows}
use Rattle.seat_history.specs.Contents.{set_at}
use Rattle.seat_history.specs.declared.entry.Entry.{Entry}
use Rattle.step_rules.specs.Cells.{IsCell}
use Rattle.step_rules.specs.Claims.{IsClaim, OWN, Tells}
use Rattle.step_rules.specs.History.{NoneOn}
use Rattle.step_rules.specs.Kinds.Claiming.{Claims, MayAnnounce, Rechecks}
use Rattle.step_rules.specs.Layout.{backup_at, cells, claim_at, nodes}
use Rattle.step_rules.specs.Plays.{Mine, announced, cleared, rechecked}
use Rattle.step_rules.specs.Records.{records_at}
use Rattle.step_rules.specs.Rule.{Holds, backup_word, claim_word, node_words, world_of}
use Rattle.step_rules.specs.Seats.{SeatOk}
use Rattle.step_rules.specs.Views.{announced as claimed_as, announced_view, claim_of, claimed_view, cleared_view, counted, grounded_by, number, silent, standing, words_in}
use Rattle.step_rules.specs.World.{World, Live, Own, Retired}
use Rattle.step_rules.specs.Writers.{SeatWriter, sites}
use Rattle.step_rules.specs.declared.layout.TheConstants.{CLAIMS}
use Rattle.step_rules.specs.declared.plan.Plan.{Plan}
use Rattle.step_rules.specs.declared.view.Claim.{Claim}
use Rattle.step_rules.specs.declared.view.Counted.{Counted}
use Rattle.step_rules.specs.declared.view.Kind.TheVariants.{ClaimStore, ClaimClear, Recheck, VersionLoad}
use Rattle.step_rules.specs.declared.view.Stage.TheVariants.{Grounded, Locked}
use Rattle.step_rules.specs.declared.view.View.{View}
use Rattle.step_rules.specs.declared.view.Writer.{Writer}
use Rattle.step_rules.proofs.Rely.Advance.{claim_found, stood_in, tells_else, tells_inside}
use Rattle.step_rules.proofs.World.Chains.{chained_linked}
use Rattle.step_rules.proofs.Rely.Writers.{versions_step, writer_claimed, writer_none}
use Rattle.step_rules.proofs.Rely.Claimed.{MayBecome, silent_may, standing_may, turn, with_claim}
use Rattle.step_rules.proofs.World.Frames.{backup_else, backup_is, claim_else, claim_here, claim_store, is_set, node_low, one_cell, one_claim}
use Rattle.step_rules.proofs.Order.Fronts.{chained_once}
use Rattle.step_rules.proofs.Rely.Moments.{Made, Moment, load_owed, moment, seat, store_owed, world}
use Rattle.step_rules.proofs.Ties.Owns.{words_at}
use Rattle.step_rules.proofs.Rely.Seeing.{CellNode, cell_node, seeing, sees, sees_moved, sees_recent, sees_seat, sees_told}
use Rattle.step_rules.proofs.Numbers.Sets.{at_has, has_first}
use Rattle.step_rules.proofs.Line.Trails.{goes_on_same, trail_step}

-- the words of a claim of the seat's
claim_low : (m : Moment) (c : ℕ) → c < CLAIMS → claim_at (number m.view) c < CLAIMS * m.view.plan.seats
claim_low m c inside = let small = (seat m).numbers.below (number m.view) (has_first m.view.numbers m.numbered) in omega arith

-- a store to the seat's claim word c, after which x is its claim there
module _ (m : Moment) (c : ℕ) (x : Claim) (made : Counted) (inside : c < CLAIMS) (may : MayBecome m.view.plan (world m) m.id c m.view.seen x)
    (seen : made.seen ≡ length m.view.seen) (other : (k : ℕ) → made.kind ≢ VersionLoad k) (unlocked : c ≡ OWN → m.view.writer.stage ≢ Locked) where
  abbrev i : ℕ
  i = claim_at (number m.view) c

  abbrev ws' : List ℕ
  ws' = set m.ws i x.word

  is : world_of m.view.plan ws' (with_claim m.unwritten i x) ≡ record (world m) { word = set_at (world m).word i x.word; guard = set_at (world m).guard i (stood_in x) }
  is = let p = m.view.plan in let low = claim_low m c inside in λ k. record {
    class = (world m).class;
    node = λ n. node_low p m.ws i x.word n (omega arith) k;
    backup = λ j. backup_else p m.ws i x.word j (λ lt e. omega arith) k;
    chain = (world m).chain;
    holder = (world m).holder;
    log = (world m).log;
    word = is_set (world m).word (claim_word p ws') i x.word (claim_here p m.ws i x.word low (let wide = m.rule.wide in omega arith)) (λ w ne. claim_else p m.ws i x.word w (λ _. ne)) k;
    guard = set_at (world m).guard i (stood_in x);
    version = λ j. (claim_store p m.ws i x.word low).version j k;
    inline = λ j. (claim_store p m.ws i x.word low).inline j k;
    locker = (world m).locker;
    source = (world m).source;
  }

  -- a store to Own ends the change in flight, which has no lock then
  flight : SeatWriter m.view.plan (sites (world m)) m.id m.view.seen (claim_of OWN (record m.view { claims = set m.view.claims c x })) (grounded_by c m.view.writer)
  flight = let w = m.view.writer in let Says = λ (u : Writer). SeatWriter m.view.plan (sites (world m)) m.id m.view.seen (claim_of OWN (record m.view { claims = set m.view.claims c x })) u in ⊎_elim
      (λ e. subst Says (sym (cond-true (eqb c OWN) (record w { stage = Grounded }) w (eq-eqb c OWN e))) (writer_none (λ flies. flies refl) (λ k held. unlocked e ((seat m).writer.locks k held).0)))
      (λ ne. subst Says (sym (cond-false (eqb c OWN) (record w { stage = Grounded }) w (ne_eqb c OWN ne))) (writer_claimed m.view.claims c x ne (seat m).writer))
      (cases_eq c OWN)

  pub claim_written : Made m ws' (record m.view { claims = set m.view.claims c x; trail = m.view.trail ++ made ∷ []; writer = grounded_by c m.view.writer })
  claim_written = turn m ws' (m.view.trail ++ made ∷ []) (grounded_by c m.view.writer) (record { ok = seat m; numbered = m.numbered; inside = inside; may = may })
      (trail_step m.view.seen made (seat m).trail (goes_on_same m.view.seen) (omega arith)) (versions_step made other (seat m).versions) flight refl (length-set m.ws i x.word ∙ m.rule.wide) is

-- where the claim is on Own, it stands at once, and else not
announced_either : (c n : ℕ) (v : View) (P : Claim → Type 0) → (c ≡ OWN → P (standing n (words_in v.own n) 0 [] 0)) → P (silent (n + 1)) → P (claimed_as c n v)
announced_either c n v P own else = ⊎_elim
    (λ e. subst P (sym (cond-true (eqb c OWN) (standing n (words_in v.own n) 0 [] 0) (silent (n + 1)) (eq-eqb c OWN e))) (own e))
    (λ ne. subst P (sym (cond-false (eqb c OWN) (standing n (words_in v.own n) 0 [] 0) (silent (n + 1)) (ne_eqb c OWN ne))) else)
    (cases_eq c OWN)

-- a claim on Own tells of no cell
own_silent : (c : ℕ) → c ≡ OWN → Tells c → ⊥
own_silent c e tells = ⊎_elim (λ q. omega arith) (λ q. omega arith) tells

announced_may : (p : Plan) (W : World) (id c n : ℕ) (v : View) → MayAnnounce c n v → SeatOk p W id v → MayBecome p W id c v.seen (claimed_as c n v)
announced_may p W id c n v may o = announced_either c n v (MayBecome p W id c v.seen)
    (λ e.
    let f = at_has v.own n (may.own e) in
    let is = o.nodes.there f.0 f.1 f.2 in
    let words : words_in v.own n ≡ f.1.words = words_at n v.own f.0 f.1 o.nodes.once f.2 f.3 in
    let mine : W.class n ≡ Own id = ap W.class (sym f.3) ∙ o.nodes.mine f.0 f.1 f.2 in
    standing_may p W id c v.seen n (words_in v.own n) 0 [] 0
    (subst (λ m. m < nodes p) f.3 is.there)
    (ap length words ∙ is.wide)
    (ap W.node (sym f.3) ∙ (o.nodes.words f.0 f.1 f.2 ∙ sym words))
    (λ tells. absurd (own_silent c e tells))
    (λ t other. (e, let q : Own id ≡ Own t = sym mine ∙ other in cc))
    (λ t gone. absurd (let q : Own id ≡ Retired t = sym mine ∙ gone in cc))
    (λ tells. absurd (own_silent c e tells))
    (λ tells. absurd (own_silent c e tells))
    (λ tells. absurd (own_silent c e tells)))
    (silent_may p W id c v.seen (n + 1))

-- what is announced
pub announced_word : (c n : ℕ) (v : View) → (claimed_as c n v).word ≡ n + 1
announced_word c n v = announced_either c n v (λ x. x.word ≡ n + 1) (λ e. refl) refl

pub announces : (slots id : ℕ) (me : Mine) (c n : ℕ) → 0 < length me.0.numbers → MayAnnounce c n me.0
    → Allows (Holds me.0.plan) slots id me (claim_at (number me.0) c) (λ _. n + 1) (λ _. announced (step slots (claim_at (number me.0) c) (n + 1) 0 none) me (n + 1))
announces slots id me c n numbered may s r _ at _ =
    let v = me.0 in
    let m = moment id me numbered s r at in
    let x = claimed_as c n v in
    let i = claim_at (number v) c in
    let made = claim_written m c x (counted (ClaimStore c n) (n + 1) (length v.seen)) may.claim (announced_may v.plan (world m) id c n v may (seat m)) refl (λ k e. cc) may.unlocked in
    store_owed id me numbered s r at _ i (n + 1) (announced_view c n v) (subst (λ y. Made m (set s.words i y) (announced_view c n v)) (announced_word c n v) made) refl numbered
    (λ d k e lt is. let q = (one_claim (number v) c (number v) d e may.claim lt).1 in let t : n ≡ k = omega arith in λ j. announced_view (q j) (t j) v)

pub clears : (slots id : ℕ) (me : Mine) (c : ℕ) → 0 < length me.0.numbers → c < CLAIMS → (c ≡ OWN → me.0.writer.stage ≢ Locked)
    → Allows (Holds me.0.plan) slots id me (claim_at (number me.0) c) (λ _. 0) (λ _. cleared (step slots (claim_at (number me.0) c) 0 0 none) me 0)
clears slots id me c numbered inside unlocked s r _ at _ =
    let v = me.0 in
    let m = moment id me numbered s r at in
    store_owed id me numbered s r at _ (claim_at (number v) c) 0 (cleared_view c v)
    (claim_written m c (silent 0) (counted (ClaimClear c) 0 (length v.seen)) inside (silent_may v.plan (world m) id c v.seen 0) refl (λ k e. cc) unlocked) refl numbered
    (λ d e lt. let q = (one_claim (number v) c (number v) d e inside lt).1 in λ j. cleared_view (q j) v)

-- a recheck after which the claim x stands, whose node the claim word named before: no word changes
module _ (m : Moment) (c k y : ℕ) (x : Claim) (inside : k < cells m.view.plan) (low : c < CLAIMS) (apart : c ≢ OWN) (may : MayBecome m.view.plan (world m) m.id c m.unwritten.log x)
    (named : (claim_of c m.view).word ≡ x.word) where
  abbrev place : ℕ
  place = claim_at (number m.view) c

  abbrev looked : View
  looked = seeing m (Recheck c k y) k inside

  seen_seat : SeatOk m.view.plan (world m) m.id looked
  seen_seat = sees_seat m (Recheck c k y) k inside (λ j e. cc)

  same_word : (world m).word ≡ set_at (world m).word place x.word
  same_word = is_set (world m).word (world m).word place x.word (seen_seat.claims.word c (claim_of c m.view) m.numbered (claim_found seen_seat.claims c low) ∙ named) (λ w ne. refl)

  pub stands_then : Made m m.ws (record looked { claims = set m.view.claims c x })
  stands_then = turn m m.ws looked.trail looked.writer
      (record { ok = seen_seat; numbered = m.numbered; inside = low; may = may }) seen_seat.trail seen_seat.versions (writer_claimed m.view.claims c x apart seen_seat.writer) refl m.rule.wide
      (λ j. record (world m) { word = same_word j; guard = set_at (world m).guard place (stood_in x) })

-- a recheck that found the node that the claim names
module _ (m : Moment) (c k y : ℕ) (inside : k < cells m.view.plan) (tells : Tells c) (named : (claim_of c m.view).word ≡ y / 2 + 1) (same : backup_word m.view.plan m.ws k / 2 ≡ y / 2) where
  abbrev p : Plan
  p = m.view.plan

  abbrev W : World
  W = world m

  abbrev log : List Entry
  log = m.unwritten.log

  abbrev x : ℕ
  x = backup_word p m.ws k

  abbrev pub rechecked_claim : Claim
  rechecked_claim = standing (x / 2) (node_words p m.ws (x / 2)) k (W.chain k) (length log)

  abbrev pub rechecked_view : View
  rechecked_view = claimed_view c k y x (node_words p m.ws (x / 2)) (W.chain k) log m.view

  cell : IsCell p W k
  cell = m.rule.cells.cell k inside

  node : CellNode p W k
  node = cell_node p W k cell

  is_claim : IsClaim p log rechecked_claim (x / 2)
  is_claim = record {
    cell = inside;
    began = le_refl (length log);
    rest = node.rest;
    heads = node.chain;
    linked = chained_linked W (Live k) (W.chain k) 0 cell.chained;
    node = cell.node;
    records = cell.records ∙ ap (λ (l : List Entry). records_at p l k) (sym (take_all (length log) log (le_refl (length log))));
    counted = cell.counted;
    once = chained_once W (Live k) (W.chain k) cell.chained;
  }

  may : MayBecome p W m.id c log rechecked_claim
  may = standing_may p W m.id c log (x / 2) (node_words p m.ws (x / 2)) k (W.chain k) (length log) node.is.there node.is.wide refl
      (λ _. is_claim)
      (λ t own. absurd (let q : Live k ≡ Own t = sym node.class ∙ own in cc))
      (λ t gone. absurd (let q : Live k ≡ Retired t = sym node.class ∙ gone in cc))
      (λ _. subst (NoneOn p k) (sym (drop-length log)) tt)
      (λ _. refl)
      (λ _. refl)

  pub rechecked_made : Made m m.ws rechecked_view
  rechecked_made = stands_then m c k y rechecked_claim inside (tells_inside c tells) (tells_else c tells) may (named ∙ ap (λ n. n + 1) (sym same))

  pub rechecked_told : Claims c k y x m.view rechecked_view
  rechecked_told = let o = seat m in let four = o.claims.sound.four in let lt = tells_inside c tells in record {
    words = node_words p m.ws (x / 2);
    pages = W.chain k;
    log = log;
    after = refl;
    rest = o.seen.rest;
    seen = o.seen.whole;
    recent = sees_recent m (Recheck c k y) k inside;
    claim = subst (λ (z : Claim). IsClaim p log z (x / 2)) (sym (get_or-set_same m.view.claims c rechecked_claim (silent 0) (omega arith))) is_claim;
    moved = sees_moved m (Recheck c k y) k inside;
  }

pub rechecks : (slots id : ℕ) (me : Mine) (c k y : ℕ) → 0 < length me.0.numbers → Tells c → k < cells me.0.plan → (claim_of c me.0).word ≡ y / 2 + 1
    → Allows (Holds me.0.plan) slots id me (backup_at me.0.plan k) (λ x. x) (rechecked c y (step slots (backup_at me.0.plan k) 0 0 none) me)
rechecks slots id me c k y numbered tells inside named s r _ at _ =
    let v = me.0 in
    let m = moment id me numbered s r at in
    let x = backup_word v.plan s.words k in
    let found = backup_is v.plan s.words k inside in
    ⊎_elim
    (λ (same : x / 2 ≡ y / 2). let w = rechecked_view m c k y inside tells named same in
    load_owed id me numbered s r at _ (backup_at v.plan k) w (rechecked_made m c k y inside tells named same) refl numbered (λ i e. let q = one_cell v.plan k i e in
    subst (λ (z : ℕ × ℕ). Rechecks c z.0 y z.1 v w) (λ j. (q j, sym found j)) (record { same = λ _. rechecked_told m c k y inside tells named same; other = λ ne. absurd (ne same) })))
    (λ (other : x / 2 ≢ y / 2). let w = seeing m (Recheck c k y) k inside in
    load_owed id me numbered s r at _ (backup_at v.plan k) w (sees m (Recheck c k y) k inside (λ j e. cc)) refl numbered (λ i e. let q = one_cell v.plan k i e in
    subst (λ (z : ℕ × ℕ). Rechecks c z.0 y z.1 v w) (λ j. (q j, sym found j)) (record { same = λ same. absurd (other same); other = λ _. sees_told m (Recheck c k y) k inside })))
    (cases_eq (x / 2) (y / 2))
