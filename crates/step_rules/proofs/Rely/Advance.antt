-- What a step of another seat leaves of what the rule says of a seat.
use Rattle.std.proofs.Common.{◌≡◌, ◌≢◌, ℕ, ◌+◌, ◌/◌, ◌<◌, ◌≤◌, true, cond, List, [], ◌∷◌, ◌++◌, length, drop, take, get_or, ⊎_elim, refl, sym, ap, ◌∙◌}
use Rattle.std.proofs.Common.{subst, arith}
use Rattle.std.proofs.lemmas.Bool.{cases_Bool, cases_eq, cond-false, cond-true}
use Rattle.std.proofs.lemmas.List.{append_assoc, drop-append-le, length-append}
use mathlib.Core.Option.{some}
use lib.ListN.{get_elem?}
use Rattle.seat_history.specs.declared.entry.Entry.{Entry}
use Rattle.step_rules.proofs.Numbers.Places.{at_below, at_there}
use Rattle.step_rules.proofs.Numbers.Sets.{any_number, has_first}
use Rattle.step_rules.proofs.Rely.Readers.{reader_moves}
use Rattle.step_rules.specs.Claims.{OWN, On, SeatClaims, Tells}
use Rattle.step_rules.specs.History.{GoesOn, NoneBy, NoneOn}
use Rattle.step_rules.specs.Layout.{claim_at}
use Rattle.step_rules.specs.Looks.{IsLook, LookHolds}
use Rattle.step_rules.specs.Seats.{Leaves, SeatOk}
use Rattle.step_rules.specs.Views.{silent}
use Rattle.step_rules.specs.World.{Class, Own, World, has}
use Rattle.step_rules.specs.Writers.{Flies, SeatWriter, sites}
use Rattle.step_rules.specs.declared.layout.TheConstants.{CLAIMS}
use Rattle.step_rules.specs.declared.plan.Plan.{Plan}
use Rattle.step_rules.specs.declared.view.Claim.{Claim}
use Rattle.step_rules.specs.declared.view.Look.{Look}
use Rattle.step_rules.specs.declared.view.View.{View}
use Rattle.step_rules.specs.declared.view.Writer.{Writer}

pub none_by-append : (x : ℕ) (a b : List Entry) → NoneBy x a → NoneBy x b → NoneBy x (a ++ b)
none_by-append x [] b h g = g
none_by-append x (e ∷ a) b h g = (h.0, none_by-append x a b h.1 g)

pub none_on-append : (p : Plan) (k : ℕ) (a b : List Entry) → NoneOn p k a → NoneOn p k b → NoneOn p k (a ++ b)
none_on-append p k [] b h g = g
none_on-append p k (e ∷ a) b h g = (h.0, none_on-append p k a b h.1 g)

pub none_on_parts : (p : Plan) (k : ℕ) (a b : List Entry) → NoneOn p k (a ++ b) → NoneOn p k a × NoneOn p k b
none_on_parts p k [] b h = (tt, h)
none_on_parts p k (e ∷ a) b h = let r = none_on_parts p k a b h.1 in ((h.0, r.0), r.1)

-- the history since a place that was seen, after it has grown
pub drop_more : (a rest log more : List Entry) (at : ℕ) → log ≡ a ++ rest → at ≤ length a → drop at (log ++ more) ≡ drop at log ++ more
drop_more a rest log more at whole within = drop-append-le at log more (omega (arith, ap (length {A = Entry}) whole, length-append a rest))

-- what stands in its word where a claim does
abbrev pub stood_in : Claim → ℕ
stood_in x = cond x.stands x.word 0

pub stood_on : (x : Claim) (n : ℕ) → stood_in x ≡ n + 1 → On x n
stood_on x n e = ⊎_elim
    (λ t. record { on = t; at = sym (cond-true x.stands x.word 0 t) ∙ e })
    (λ f. absurd (let q : 0 ≡ n + 1 = sym (cond-false x.stands x.word 0 f) ∙ e in omega arith))
    (cases_Bool x.stands)

-- what a look knows stays so
look_stable : (p : Plan) (W W' : World) (s : ℕ) (numbers : List ℕ) (seen rest more : List Entry) (l : Look) → W.log ≡ seen ++ rest → IsLook p seen l → LookHolds p W.backup W.log l
    → Leaves p s numbers W W' more → LookHolds p W'.backup W'.log l
look_stable p W W' s numbers seen rest more l whole is k leaves = record {
  same = λ none. let q = since none in leaves.same l.cell q.1 ∙ k.same q.0;
  falls = λ none. let q = since none in let a = leaves.falls l.cell q.1 in let b = k.falls q.0 in omega arith;
}
  where
    since : NoneOn p l.cell (drop l.at W'.log) → NoneOn p l.cell (drop l.at W.log) × NoneOn p l.cell more
    since none = none_on_parts p l.cell (drop l.at W.log) more (subst (NoneOn p l.cell) (ap (drop l.at) leaves.log ∙ drop_more seen rest W.log more l.at whole is.at) none)

-- a seat's claims
module _ {p : Plan} {W : World} {s : ℕ} {numbers : List ℕ} {least : ℕ} {seen : List Entry} {claims : List Claim} (k : SeatClaims p W s numbers least seen claims) where
  -- there are no more of them than claim words
  pub claim_inside : (c : ℕ) (x : Claim) → get_elem? claims c ≡ some x → c < CLAIMS
  claim_inside c x at = let low = at_below claims c x at in let four = k.sound.four in omega arith

  pub claim_found : (c : ℕ) → c < CLAIMS → get_elem? claims c ≡ some (get_or claims c (silent 0))
  claim_found c inside = let four = k.sound.four in at_there claims c (silent 0) (omega arith)

  -- a seat whose claim stands has a number
  claim_numbered : (c n : ℕ) (x : Claim) → get_elem? claims c ≡ some x → On x n → 0 < length numbers
  claim_numbered c n x at on = some_number numbers refl
    where
      some_number : (l : List ℕ) → l ≡ numbers → 0 < length numbers
      some_number [] e = absurd (k.none_spent c n x (ap (length {A = ℕ}) (sym e)) at on)
      some_number (y ∷ l) e = let z = ap (length {A = ℕ}) e in omega arith

  -- where a claim stands, its guard names the node
  pub guarded : (c n : ℕ) (x : Claim) → get_elem? claims c ≡ some x → On x n → W.guard (claim_at least c) ≡ n + 1
  guarded c n x at on = k.guard c x (claim_numbered c n x at on) at ∙ (ap (λ b. cond b x.word 0) on.on ∙ on.at)

  -- what stands in a claim word of the seat is one of its claims
  pub standing_there : (y c n : ℕ) → has numbers y ≡ true → c < CLAIMS → W.guard (claim_at y c) ≡ n + 1 → (x : Claim) × (get_elem? claims c ≡ some x) × On x n
  standing_there y c n h lt e =
      let z = get_or claims c (silent 0) in
      let at = claim_found c lt in
      let is : y ≡ least = ⊎_elim (λ q. q) (λ ne. let g = (k.others y c h ne lt).1 in absurd (omega arith)) (cases_eq y least) in
      (z, at, stood_on z n (sym (k.guard c z (any_number numbers y h) at) ∙ (ap (λ i. W.guard (claim_at i c)) (sym is) ∙ e)))

  -- a step of another seat keeps what the rule says of them
  pub claims_stable : (W' : World) (rest more : List Entry) → (0 < length numbers → has numbers least ≡ true) → W.log ≡ seen ++ rest → Leaves p s numbers W W' more
      → SeatClaims p W' s numbers least seen claims
  claims_stable W' rest more first whole leaves = record {
    sound = k.sound;
    word = λ c x some_number at. leaves.word least c (first some_number) (claim_inside c x at) ∙ k.word c x some_number at;
    guard = λ c x some_number at. leaves.guard least c (first some_number) (claim_inside c x at) ∙ k.guard c x some_number at;
    others = λ x c h ne lt. (leaves.word x c h lt ∙ (k.others x c h ne lt).0, leaves.guard x c h lt ∙ (k.others x c h ne lt).1);
    none_spent = k.none_spent;
    image = λ c n x at on. leaves.image least c n (mine c n x at on) (claim_inside c x at) (guarded c n x at on) ∙ k.image c n x at on;
    kept = λ c n t x at on own. k.kept c n t x at on (leaves.taken least c n t (mine c n x at on) (claim_inside c x at) (guarded c n x at on) own);
    calm = λ c n x at tells on e.
        let f = quiet c n x at tells on e in
        subst (NoneOn p x.cell) (sym (longer c n x at tells on)) (none_on-append p x.cell (drop x.at W.log) more (k.calm c n x at tells on (sym (leaves.same x.cell f) ∙ e)) f);
    pages = λ c n x at tells on e. let f = quiet c n x at tells on e in leaves.chain x.cell f ∙ k.pages c n x at tells on (sym (leaves.same x.cell f) ∙ e);
    stays = λ c n x at tells on none.
        let parts = none_on_parts p x.cell (drop x.at W.log) more (subst (NoneOn p x.cell) (longer c n x at tells on) none) in
        leaves.same x.cell parts.1 ∙ k.stays c n x at tells on parts.0;
  }
    where
      longer : (c n : ℕ) (x : Claim) → get_elem? claims c ≡ some x → Tells c → On x n → drop x.at W'.log ≡ drop x.at W.log ++ more
      longer c n x at tells on = ap (drop x.at) leaves.log ∙ drop_more seen rest W.log more x.at whole (k.sound.told c n x at tells on).began

      mine : (c n : ℕ) (x : Claim) → get_elem? claims c ≡ some x → On x n → has numbers least ≡ true
      mine c n x at on = first (claim_numbered c n x at on)

      quiet : (c n : ℕ) (x : Claim) → get_elem? claims c ≡ some x → Tells c → On x n → W'.backup x.cell / 2 ≡ n → NoneOn p x.cell more
      quiet c n x at tells on e = leaves.fresh least c n x.cell (mine c n x at on) (claim_inside c x at) (guarded c n x at on) e

  -- where their nodes keep their words and become no seat's own, and all else stays
  pub claims_kept : (class : ℕ → Class) (node : ℕ → List ℕ)
      → ((c n : ℕ) (x : Claim) → get_elem? claims c ≡ some x → On x n → (node n ≡ W.node n) × ((t : ℕ) → class n ≡ Own t → W.class n ≡ Own t))
      → SeatClaims p (record W { class = class; node = node }) s numbers least seen claims
  claims_kept class node stays = record {
    sound = k.sound;
    word = k.word;
    guard = k.guard;
    others = k.others;
    none_spent = k.none_spent;
    image = λ c n x at on. (stays c n x at on).0 ∙ k.image c n x at on;
    kept = λ c n t x at on own. k.kept c n t x at on ((stays c n x at on).1 t own);
    calm = k.calm;
    pages = k.pages;
    stays = k.stays;
  }

-- what a step of another seat leaves of a seat's change in flight
module _ {p : Plan} {W : World} {s : ℕ} {numbers : List ℕ} {least : ℕ} {seen : List Entry} {claims : List Claim} (k : SeatClaims p W s numbers least seen claims) (w : Writer)
    (o : SeatWriter p (sites W) s seen (get_or claims OWN (silent 0)) w) where
  abbrev mine : Claim
  mine = get_or claims OWN (silent 0)

  mine_at : get_elem? claims OWN ≡ some mine
  mine_at = claim_found k OWN (omega arith)

  -- its node is guarded
  pub own_guarded : Flies w → W.guard (claim_at least OWN) ≡ w.node + 1
  own_guarded flies = guarded k OWN w.node mine mine_at (o.sound.own flies)

  pub own_numbered : Flies w → 0 < length numbers
  own_numbered flies = claim_numbered k OWN w.node mine mine_at (o.sound.own flies)

  pub writer_stable : (W' : World) (rest more : List Entry) → (0 < length numbers → has numbers least ≡ true) → W.log ≡ seen ++ rest → Leaves p s numbers W W' more
      → SeatWriter p (sites W') s seen mine w
  writer_stable W' rest more first whole leaves = let keeps = leaves.locks in record {
    sound = o.sound;
    before = λ flies u found. let a = o.before flies u found in let b = keeps.version w.cell in omega arith;
    last = λ flies names.
        let none : NoneOn p w.cell more = leaves.fresh least OWN w.node w.cell (first (own_numbered flies)) (omega arith) (own_guarded flies) names in
        subst (NoneOn p w.cell) (sym (longer flies)) (none_on-append p w.cell (drop (w.change + 1) W.log) more (o.last flies (sym (leaves.same w.cell none) ∙ names)) none);
    free = λ flies t own. o.free flies t (leaves.taken least OWN w.node t (first (own_numbered flies)) (omega arith) (own_guarded flies) own);
    locked = λ e. let q = o.locked e in let r = keeps.locked w.cell q.0 in (r.0, r.1 ∙ q.1, ap (take w.stores) r.2 ∙ q.2);
    released = λ e. let a = o.released e in let b = keeps.version w.cell in omega arith;
    locks = λ j e. o.locks j (keeps.locks j e);
    stays = λ flies none. let parts = none_on_parts p w.cell (drop (w.change + 1) W.log) more (subst (NoneOn p w.cell) (longer flies) none) in leaves.same w.cell parts.1 ∙ o.stays flies parts.0;
    later = λ flies u found. let a = o.later flies u found in let same = keeps.source w.cell u (o.before flies u found) in omega arith;
    sourced = λ e. keeps.source w.cell (w.version + 2) (o.released e) ∙ o.sourced e;
  }
    where
      longer : Flies w → drop (w.change + 1) W'.log ≡ drop (w.change + 1) W.log ++ more
      longer flies = let e = o.sound.change flies in let low = at_below seen w.change e.0 e.1 in
          ap (drop (w.change + 1)) leaves.log ∙ drop_more seen rest W.log more (w.change + 1) whole (omega arith)

-- a claim that tells of a record isn't Own
pub tells_else : (c : ℕ) → Tells c → c ≢ OWN
tells_else c tells e = ⊎_elim (λ q. omega arith) (λ q. omega arith) tells

pub tells_inside : (c : ℕ) → Tells c → c < CLAIMS
tells_inside c tells = ⊎_elim (λ q. omega arith) (λ q. omega arith) tells

-- a claim in a seat's word keeps other seats from its node
module _ {p : Plan} {W : World} {s : ℕ} {v : View} (ok : SeatOk p W s v) where
  pub none_other : (id x c n : ℕ) → s ≢ id → has v.numbers x ≡ true → c < CLAIMS → W.guard (claim_at x c) ≡ n + 1 → W.class n ≢ Own id
  none_other id x c n ne holds inside stands mine = let y = standing_there ok.claims x c n holds inside stands in ne (sym (ok.claims.kept c n id y.0 y.1 y.2 mine).1)

  -- a step of another seat keeps what the rule says of a seat
  pub stable : (W' : World) (more : List Entry) → Leaves p s v.numbers W W' more → SeatOk p W' s v
  stable W' more leaves = record {
    plan = ok.plan;
    numbers = record {
      held = λ x h. leaves.holder x (ok.numbers.held x h);
      below = ok.numbers.below;
      once = ok.numbers.once;
    };
    nodes = record {
      there = ok.nodes.there;
      mine = λ i h e. leaves.own h.node (ok.nodes.mine i h e);
      words = λ i h e. leaves.words h.node (ok.nodes.mine i h e) ∙ ok.nodes.words i h e;
      once = ok.nodes.once;
      retired_once = ok.nodes.retired_once;
      retired = λ n h. leaves.retired n (ok.nodes.retired n h);
      retired_there = ok.nodes.retired_there;
    };
    stock = ok.stock;
    seen = record {
      rest = ok.seen.rest ++ more;
      whole = leaves.log ∙ (ap (λ l. l ++ more) ok.seen.whole ∙ append_assoc v.seen ok.seen.rest more);
      own = λ x h. none_by-append x ok.seen.rest more (ok.seen.own x h) (leaves.by x (ok.numbers.held x h));
    };
    earlier = ok.earlier;
    lawful = ok.lawful;
    trail = ok.trail;
    look = record {
      is = ok.look.is;
      holds = λ l e. look_stable p W W' s v.numbers v.seen ok.seen.rest more l ok.seen.whole (ok.look.is l e) (ok.look.holds l e) leaves;
    };
    claims = claims_stable ok.claims W' ok.seen.rest more (has_first v.numbers) ok.seen.whole leaves;
    scan = record {
      sound = ok.scan.sound;
      found = λ w n lt on old. ok.scan.found w n lt (leaves.quiet w n (ok.nodes.retired n (ok.scan.sound.old n old)) on) old;
    };
    versions = record { found = λ k u found. let a = ok.versions.found k u found in let b = leaves.locks.version k in omega arith };
    reader = reader_moves leaves.locks.version leaves.locks.inline ok.reader;
    writer = writer_stable ok.claims v.writer ok.writer W' ok.seen.rest more (has_first v.numbers) ok.seen.whole leaves;
  }

-- what goes on to a part goes on to what goes on from that
pub goes_further : (a b c rest : List Entry) → GoesOn a b → c ≡ b ++ rest → GoesOn a c
goes_further a b c rest on further = (on.0 ++ rest, further ∙ (ap (λ l. l ++ rest) on.1 ∙ append_assoc a on.0 rest))
