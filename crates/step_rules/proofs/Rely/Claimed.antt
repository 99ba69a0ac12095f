-- One claim of a seat becomes another.
use Rattle.std.proofs.Common.{◌≡◌, ◌≢◌, ℕ, ◌+◌, ◌/◌, ◌<◌, true, List, [], ◌++◌, length, drop, set, get_or, refl, sym, ap, ◌∙◌, subst, arith, le_refl, ◌⊎◌, inl}
use Rattle.std.proofs.Common.{inr, ⊎_elim, append-nil, length-append}
use Rattle.std.proofs.lemmas.Bool.{cases_eq, false≢true}
use Rattle.std.proofs.lemmas.List.{length-set, take-append-le}
use mathlib.Core.Option.{some}
use lib.ListN.{get_elem?}
use Rattle.atomic_table.proofs.Lists.{at_set}
use Rattle.seat_history.specs.declared.entry.Entry.{Entry}
use Rattle.step_rules.specs.Cells.{CellsAgree}
use Rattle.step_rules.specs.Claims.{ClaimsSound, Guards, IsClaim, OWN, On, SeatClaims, Tells}
use Rattle.step_rules.specs.History.{NoneOn}
use Rattle.step_rules.specs.Layout.{claim_at, nodes, words}
use Rattle.step_rules.specs.Records.{records_at}
use Rattle.step_rules.specs.Seats.{Leaves, SeatOk}
use Rattle.step_rules.specs.Trail.{IsTrail}
use Rattle.step_rules.specs.Versions.{SeatVersions}
use Rattle.step_rules.specs.Views.{number, silent, standing}
use Rattle.step_rules.specs.World.{Own, Retired, Unwritten, World}
use Rattle.step_rules.specs.Writers.{SeatWriter, sites}
use Rattle.step_rules.specs.declared.layout.TheConstants.{CLAIMS, NODE_WIDTH}
use Rattle.step_rules.specs.declared.plan.Plan.{Plan}
use Rattle.step_rules.specs.declared.view.Claim.{Claim}
use Rattle.step_rules.specs.declared.view.Counted.{Counted}
use Rattle.step_rules.specs.declared.view.Held.{Held}
use Rattle.step_rules.specs.declared.view.View.{View}
use Rattle.step_rules.specs.declared.view.Writer.{Writer}
use Rattle.step_rules.proofs.Rely.Advance.{stood_in, stood_on}
use Rattle.step_rules.proofs.Rely.Writers.{locks_stay}
use Rattle.step_rules.proofs.World.Chains.{cell_stays}
use Rattle.step_rules.proofs.World.Frames.{one_claim, set_at_else}
use Rattle.step_rules.proofs.Rely.Moments.{Made, Moment, advance, world}
use Rattle.seat_history.proofs.Changed.{set_at_here}
use Rattle.seat_history.specs.Contents.{set_at}
use Rattle.step_rules.specs.Rule.{world_of}
use Rattle.step_rules.proofs.Numbers.Sets.{has_first}

-- a claim names one node
pub on_one : (x : Claim) (m n : ℕ) → x.word ≡ m + 1 → On x n → m ≡ n
on_one x m n e on = let h = on.at in omega arith

pub on_standing : (m n : ℕ) (ws : List ℕ) (k : ℕ) (pages : List Held) (at : ℕ) → On (standing m ws k pages at) n → m ≡ n
on_standing m n ws k pages at on = on_one (standing m ws k pages at) m n refl on

pub on_silent : (w n : ℕ) → On (silent w) n → ⊥
on_silent w n on = false≢true on.on

-- the claim after more is seen
pub claim_more : (p : Plan) (a r : List Entry) (x : Claim) (n : ℕ) → IsClaim p a x n → IsClaim p (a ++ r) x n
claim_more p a r x n k = let b = k.began in record {
  cell = k.cell;
  began = omega (arith, length-append a r);
  rest = k.rest;
  heads = k.heads;
  linked = k.linked;
  node = k.node;
  records = k.records ∙ ap (λ (l : List Entry). records_at p l x.cell) (sym (take-append-le x.at a r b));
  counted = k.counted;
  once = k.once;
}

pub claims_sound_more : {p : Plan} {a : List Entry} {claims : List Claim} (r : List Entry) → ClaimsSound p a claims → ClaimsSound p (a ++ r) claims
claims_sound_more {p = p} {a = a} r k = record {
  four = k.four;
  named = k.named;
  there = k.there;
  told = λ c n x e tells on. claim_more p a r x n (k.told c n x e tells on);
}

pub claims_more : {p : Plan} {W : World} {s : ℕ} {numbers : List ℕ} {least : ℕ} {a : List Entry} {claims : List Claim} (r : List Entry) → SeatClaims p W s numbers least a claims
    → SeatClaims p W s numbers least (a ++ r) claims
claims_more r k = record {
  sound = claims_sound_more r k.sound;
  word = k.word;
  guard = k.guard;
  others = k.others;
  none_spent = k.none_spent;
  image = k.image;
  kept = k.kept;
  calm = k.calm;
  pages = k.pages;
  stays = k.stays;
}

-- the claims after the claim c becomes x
each_claim : (claims : List Claim) (c : ℕ) (x : Claim) (P : ℕ → Claim → Type 0) → P c x → ((d : ℕ) (y : Claim) → d ≢ c → get_elem? claims d ≡ some y → P d y)
    → (d : ℕ) (y : Claim) → get_elem? (set claims c x) d ≡ some y → P d y
each_claim claims c x P here else d y e = ⊎_elim
    (λ (t : (d ≡ c) × (x ≡ y)). subst (λ (z : ℕ × Claim). P z.0 z.1) (λ i. (sym t.0 i, t.1 i)) here)
    (λ (t : (d ≢ c) × (get_elem? claims d ≡ some y)). else d y t.0 t.1)
    (at_set claims c d x y e)

-- what makes x a claim that the seat id may have in its claim word c
pub record MayBecome (p : Plan) (W : World) (id c : ℕ) (seen : List Entry) (x : Claim) : Type 0 where
  pub named : x.stands ≡ true → (n : ℕ) × On x n
  pub there : (n : ℕ) → On x n → (n < nodes p) × (length x.image ≡ NODE_WIDTH)
  pub told : (n : ℕ) → Tells c → On x n → IsClaim p seen x n
  pub image : (n : ℕ) → On x n → W.node n ≡ x.image
  pub kept : (n t : ℕ) → On x n → W.class n ≡ Own t → (c ≡ OWN) × (t ≡ id)
  pub in_use : (n t : ℕ) → On x n → W.class n ≢ Retired t
  pub calm : (n : ℕ) → Tells c → On x n → W.backup x.cell / 2 ≡ n → NoneOn p x.cell (drop x.at W.log)
  pub pages : (n : ℕ) → Tells c → On x n → W.backup x.cell / 2 ≡ n → W.chain x.cell ≡ x.pages
  pub stays : (n : ℕ) → Tells c → On x n → W.backup x.cell / 2 ≡ n

pub silent_may : (p : Plan) (W : World) (id c : ℕ) (seen : List Entry) (w : ℕ) → MayBecome p W id c seen (silent w)
silent_may p W id c seen w = record {
  named = λ on. absurd (false≢true on);
  there = λ n on. absurd (on_silent w n on);
  told = λ n tells on. absurd (on_silent w n on);
  image = λ n on. absurd (on_silent w n on);
  kept = λ n t on e. absurd (on_silent w n on);
  in_use = λ n t on e. on_silent w n on;
  calm = λ n tells on e. absurd (on_silent w n on);
  pages = λ n tells on e. absurd (on_silent w n on);
  stays = λ n tells on. absurd (on_silent w n on);
}

-- a claim on one node, by what holds of the node
pub standing_may : (p : Plan) (W : World) (id c : ℕ) (seen : List Entry) (n : ℕ) (ws : List ℕ) (k : ℕ) (pages : List Held) (at : ℕ) → n < nodes p → length ws ≡ NODE_WIDTH
    → W.node n ≡ ws
    → (Tells c → IsClaim p seen (standing n ws k pages at) n) → ((t : ℕ) → W.class n ≡ Own t → (c ≡ OWN) × (t ≡ id)) → ((t : ℕ) → W.class n ≢ Retired t)
    → (Tells c → NoneOn p k (drop at W.log)) → (Tells c → W.chain k ≡ pages) → (Tells c → W.backup k / 2 ≡ n) → MayBecome p W id c seen (standing n ws k pages at)
standing_may p W id c seen n ws k pages at there wide image told kept in_use calm whole names = record {
  named = λ _. (n, record { on = refl; at = refl });
  there = λ m on. (subst (λ i. i < nodes p) (on_standing n m ws k pages at on) there, wide);
  told = λ m tells on. subst (IsClaim p seen (standing n ws k pages at)) (on_standing n m ws k pages at on) (told tells);
  image = λ m on. ap W.node (sym (on_standing n m ws k pages at on)) ∙ image;
  kept = λ m t on e. kept t (ap W.class (on_standing n m ws k pages at on) ∙ e);
  in_use = λ m t on e. in_use t (ap W.class (on_standing n m ws k pages at on) ∙ e);
  calm = λ m tells on e. calm tells;
  pages = λ m tells on e. whole tells;
  stays = λ m tells on. names tells ∙ on_standing n m ws k pages at on;
}

-- the seat id, whose view is v, may have x in its claim word c
pub record MayTurn (p : Plan) (W : World) (id : ℕ) (v : View) (c : ℕ) (x : Claim) : Type 0 where
  pub ok : SeatOk p W id v
  pub numbered : 0 < length v.numbers
  pub inside : c < CLAIMS
  pub may : MayBecome p W id c v.seen x

-- the claim becomes x: its word and its guard change, and nothing else
module _ {p : Plan} {W : World} {id : ℕ} {v : View} {c : ℕ} {x : Claim} (t : MayTurn p W id v c x) where
  abbrev here : ℕ
  here = claim_at (number v) c

  abbrev pub turned : World
  turned = record W { word = set_at W.word here x.word; guard = set_at W.guard here (stood_in x) }

  -- the words of other seats' numbers
  apart : (s y d : ℕ) → s ≢ id → W.holder y ≡ s → d < CLAIMS → claim_at y d ≢ here
  apart s y d ne held lt e = ne (sym held ∙ (ap W.holder (one_claim y d (number v) c e lt t.inside).0 ∙ t.ok.numbers.held (number v) (has_first v.numbers t.numbered)))

  -- where a claim stands then, it is this one, or it stood before
  stands_now : (w n : ℕ) → turned.guard w ≡ n + 1 → ((w ≡ here) × On x n) ⊎ ((w ≢ here) × (W.guard w ≡ n + 1))
  stands_now w n e = ⊎_elim
      (λ q. inl (q, stood_on x n (sym (ap turned.guard q ∙ set_at_here W.guard here (stood_in x)) ∙ e)))
      (λ ne. inr (ne, sym (set_at_else W.guard here w (stood_in x) ne) ∙ e))
      (cases_eq w here)

  -- no claim begins to stand on a retired node
  quiet : (w n s : ℕ) → W.class n ≡ Retired s → turned.guard w ≡ n + 1 → W.guard w ≡ n + 1
  quiet w n s gone e = ⊎_elim (λ (q : (w ≡ here) × On x n). absurd (t.may.in_use n s q.1 gone)) (λ (q : (w ≢ here) × (W.guard w ≡ n + 1)). q.1) (stands_now w n e)

  pub turned_leaves : (s : ℕ) (u : View) → s ≢ id → SeatOk p W s u → Leaves p s u.numbers W turned []
  turned_leaves s u ne ok = record {
    log = sym (append-nil W.log);
    by = λ y h. tt;
    holder = λ y h. h;
    own = λ m h. h;
    words = λ m h. refl;
    retired = λ m h. h;
    word = λ y d h lt. set_at_else W.word here (claim_at y d) x.word (apart s y d ne (ok.numbers.held y h) lt);
    guard = λ y d h lt. set_at_else W.guard here (claim_at y d) (stood_in x) (apart s y d ne (ok.numbers.held y h) lt);
    quiet = λ w n gone e. quiet w n s gone e;
    image = λ y d n h lt e. refl;
    taken = λ y d n u h lt e own. own;
    same = λ k h. refl;
    falls = λ k h. le_refl (W.backup k);
    chain = λ k h. refl;
    fresh = λ y d n k h lt e names. tt;
    locks = locks_stay s (sites W) (sites turned) (λ k. refl) (λ k. refl) (λ k. refl) (λ k u. refl);
  }

  pub turned_cells : CellsAgree p W → CellsAgree p turned
  turned_cells cells = record { cell = λ k lt. cell_stays W turned refl refl refl (λ m h. (h, refl)) (cells.cell k lt) }

  pub turned_guards : Guards p W.word W.guard → Guards p turned.word turned.guard
  turned_guards g = record {
    named = λ w n e. ⊎_elim
        (λ (q : (w ≡ here) × On x n). ap turned.word q.0 ∙ (set_at_here W.word here x.word ∙ q.1.at))
        (λ (q : (w ≢ here) × (W.guard w ≡ n + 1)). set_at_else W.word here w x.word q.0 ∙ g.named w n q.1)
        (stands_now w n e);
    within = λ w n e. ⊎_elim
        (λ (q : (w ≡ here) × On x n). let i = q.0 in let small = t.ok.numbers.below (number v) (has_first v.numbers t.numbered) in omega arith)
        (λ (q : (w ≢ here) × (W.guard w ≡ n + 1)). g.within w n q.1)
        (stands_now w n e);
  }

  turned_claims : SeatClaims p turned id v.numbers (number v) v.seen (set v.claims c x)
  turned_claims = let k = t.ok.claims in record {
    sound = record {
      four = length-set v.claims c x ∙ k.sound.four;
      named = each_claim v.claims c x (λ _ y. y.stands ≡ true → (n : ℕ) × On y n) t.may.named (λ d y _. k.sound.named d y);
      there = λ d n. each_claim v.claims c x (λ _ y. On y n → (n < nodes p) × (length y.image ≡ NODE_WIDTH)) (t.may.there n) (λ e y _. k.sound.there e n y) d;
      told = λ d n. each_claim v.claims c x (λ e y. Tells e → On y n → IsClaim p v.seen y n) (t.may.told n) (λ e y _. k.sound.told e n y) d;
    };
    word = λ d y _. each_claim v.claims c x (λ e z. turned.word (claim_at (number v) e) ≡ z.word) (set_at_here W.word here x.word)
        (λ e z ne at. set_at_else W.word here (claim_at (number v) e) x.word (λ q. ne (omega arith)) ∙ k.word e z t.numbered at) d y;
    guard = λ d y _. each_claim v.claims c x (λ e z. turned.guard (claim_at (number v) e) ≡ stood_in z) (set_at_here W.guard here (stood_in x))
        (λ e z ne at. set_at_else W.guard here (claim_at (number v) e) (stood_in x) (λ q. ne (omega arith)) ∙ k.guard e z t.numbered at) d y;
    others = λ y d h ne lt. let q : claim_at y d ≢ here = λ e. ne (one_claim y d (number v) c e lt t.inside).0 in let none = k.others y d h ne lt in
        (set_at_else W.word here (claim_at y d) x.word q ∙ none.0, set_at_else W.guard here (claim_at y d) (stood_in x) q ∙ none.1);
    none_spent = λ d n y none. absurd (omega (arith, t.numbered));
    image = λ d n. each_claim v.claims c x (λ _ y. On y n → W.node n ≡ y.image) (t.may.image n) (λ e y _ at. k.image e n y at) d;
    kept = λ d n s. each_claim v.claims c x (λ e y. On y n → W.class n ≡ Own s → (e ≡ OWN) × (s ≡ id)) (t.may.kept n s) (λ e y _. k.kept e n s y) d;
    calm = λ d n. each_claim v.claims c x (λ e y. Tells e → On y n → W.backup y.cell / 2 ≡ n → NoneOn p y.cell (drop y.at W.log)) (t.may.calm n) (λ e y _ at. k.calm e n y at) d;
    pages = λ d n. each_claim v.claims c x (λ e y. Tells e → On y n → W.backup y.cell / 2 ≡ n → W.chain y.cell ≡ y.pages) (t.may.pages n) (λ e y _ at. k.pages e n y at) d;
    stays = λ d n. each_claim v.claims c x (λ e y. Tells e → On y n → NoneOn p y.cell (drop y.at W.log)
        → W.backup y.cell / 2 ≡ n) (λ tells on _. t.may.stays n tells on) (λ e y _ at. k.stays e n y at) d;
  }

  -- the seat's claim is x then, and nothing else changes that the rule speaks of but the counted steps
  pub turned_seat : (trail : List Counted) (writer : Writer) → IsTrail v.since trail v.seen → SeatVersions W.version trail
      → SeatWriter p (sites W) id v.seen (get_or (set v.claims c x) OWN (silent 0)) writer
      → SeatOk p turned id (record v { claims = set v.claims c x; trail = trail; writer = writer })
  turned_seat trail writer counts versions flight = record {
    plan = t.ok.plan;
    numbers = t.ok.numbers;
    nodes = t.ok.nodes;
    stock = t.ok.stock;
    seen = t.ok.seen;
    earlier = t.ok.earlier;
    lawful = t.ok.lawful;
    trail = counts;
    look = t.ok.look;
    claims = turned_claims;
    scan = record { sound = t.ok.scan.sound; found = λ w n lt e old. t.ok.scan.found w n lt (quiet w n id (t.ok.nodes.retired n (t.ok.scan.sound.old n old)) e) old };
    versions = versions;
    writer = flight;
    reader = t.ok.reader;
  }

-- what no word says, as the claim word w gets the claim x
abbrev pub with_claim : Unwritten → ℕ → Claim → Unwritten
with_claim U w x = record U { guard = set_at U.guard w (stood_in x) }

-- the claim c becomes x: of a view that the seat has, or has with what it sees by this step, its word being in the words by then
pub turn : (m : Moment) (ws : List ℕ) (trail : List Counted) (writer : Writer) {view : View} {c : ℕ} {x : Claim} (t : MayTurn m.view.plan (world m) m.id view c x)
    → IsTrail view.since trail view.seen → SeatVersions (world m).version trail → SeatWriter m.view.plan (sites (world m)) m.id view.seen (get_or (set view.claims c x) OWN (silent 0)) writer
    → view.changes ≡ m.view.changes → length ws ≡ words m.view.plan → world_of m.view.plan ws (with_claim m.unwritten (claim_at (number view) c) x) ≡ turned t
    → Made m ws (record view { claims = set view.claims c x; trail = trail; writer = writer })
turn m ws trail writer {view = view} {c = c} {x = x} t counts versions flight changes wide is =
    advance m ws (with_claim m.unwritten (claim_at (number view) c) x) (turned t) [] (record view { claims = set view.claims c x; trail = trail; writer = writer }) (record {
      is = is;
      wide = wide;
      own = turned_seat t trail writer counts versions flight;
      others = turned_leaves t;
      cells = turned_cells t m.rule.cells;
      guards = turned_guards t m.rule.guards;
      history = m.rule.history;
      versions = m.rule.versions;
      lockers = m.rule.lockers;
      budget = omega arith;
    })
