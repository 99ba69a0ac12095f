-- A step of a change in flight that changes versions, inline words and lockers, and nothing beside them.
use Rattle.std.proofs.Common.{◌≡◌, ◌≢◌, ℕ, ◌+◌, ◌<◌, ◌≤◌, List, [], ◌∷◌, ◌++◌, length, drop, refl, sym, ap, ◌∙◌, subst, arith, le_refl, append-nil}
use Rattle.seat_history.specs.declared.entry.Entry.{Entry}
use Rattle.step_rules.specs.Claims.{OWN, SeatClaims}
use Rattle.step_rules.specs.History.{NoneOn}
use Rattle.step_rules.specs.Layout.{cells}
use Rattle.step_rules.specs.Rule.{inline_words, version_word, world_of}
use Rattle.step_rules.specs.Seats.{Leaves, SeatOk}
use Rattle.step_rules.specs.Versions.{IsEven, VersionedAt}
use Rattle.step_rules.specs.Views.{claim_of}
use Rattle.step_rules.specs.World.{Unwritten, World}
use Rattle.step_rules.specs.Writers.{LeavesLocks, SeatWriter, sites}
use Rattle.step_rules.specs.declared.view.Claim.{Claim}
use Rattle.step_rules.specs.declared.view.Counted.{Counted}
use Rattle.step_rules.specs.declared.view.Kind.TheVariants.{VersionLoad}
use Rattle.step_rules.specs.declared.view.View.{View}
use Rattle.step_rules.specs.declared.view.Writer.{Writer}
use Rattle.step_rules.proofs.World.Chains.{cell_stays}
use Rattle.step_rules.proofs.World.Frames.{OthersStay}
use Rattle.step_rules.proofs.Rely.Moments.{Made, Moment, advance, seat, world}
use Rattle.step_rules.proofs.Rely.Readers.{reader_moves}
use Rattle.step_rules.proofs.Rely.Writers.{versions_step}
use Rattle.step_rules.proofs.Line.Trails.{goes_on_same, trail_step}

module _ (m : Moment) (version : ℕ → ℕ) (inline : ℕ → List ℕ) (locker : ℕ → ℕ) (source : ℕ → ℕ → ℕ) where
  abbrev pub beside : World
  beside = record (world m) { version = version; inline = inline; locker = locker; source = source }

  abbrev pub beside_unwritten : Unwritten
  beside_unwritten = record m.unwritten { locker = locker; source = source }

  beside_claims : {s : ℕ} {numbers : List ℕ} {least : ℕ} {seen : List Entry} {claims : List Claim} → SeatClaims m.view.plan (world m) s numbers least seen claims
      → SeatClaims m.view.plan beside s numbers least seen claims
  beside_claims k = record {
    sound = k.sound;
    word = k.word;
    guard = k.guard;
    others = k.others;
    none_spent = k.none_spent;
    image = k.image;
    kept = k.kept;
    calm = k.calm;
    pages = k.pages;
    stays = k.stays;
  }

  beside_leaves : (s : ℕ) (u : View) → LeavesLocks s (sites (world m)) (sites beside) → Leaves m.view.plan s u.numbers (world m) beside []
  beside_leaves s u locks = record {
    log = sym (append-nil (world m).log);
    by = λ y h. tt;
    holder = λ y h. h;
    own = λ n h. h;
    words = λ n h. refl;
    retired = λ n h. h;
    word = λ y c h lt. refl;
    guard = λ y c h lt. refl;
    quiet = λ w n h e. e;
    image = λ y c n h lt e. refl;
    taken = λ y c n t h lt e own. own;
    same = λ k h. refl;
    falls = λ k h. le_refl ((world m).backup k);
    chain = λ k h. refl;
    fresh = λ y c n k h lt e names. tt;
    locks = locks;
  }

  -- a cell whose version, inline words, locker and sources stay
  pub beside_else : (k : ℕ) → k < cells m.view.plan → version k ≡ (world m).version k → inline k ≡ (world m).inline k → locker k ≡ (world m).locker k
      → ((u : ℕ) → source k u ≡ (world m).source k u) → VersionedAt m.view.plan beside k
  beside_else k lt same_version same_inline same_locker same_source =
      let p = m.view.plan in
      let log = (world m).log in
      let before = m.rule.versions k lt in
      let now : source k (version k) ≡ (world m).source k ((world m).version k) = ap (source k) same_version ∙ same_source ((world m).version k) in record {
        locked = λ odd. let b = before.locked (omega arith) in (b.0, same_locker ∙ b.1);
        dated = λ u. let d = before.dated u in let e = same_source u in omega arith;
        passed = λ u even low none. before.passed u even (omega arith) (subst (λ a. NoneOn p k (drop a log)) (same_source u) none);
        copied = λ even none. same_inline ∙ before.copied (omega arith) (subst (λ a. NoneOn p k (drop a log)) now none);
        settled = λ even. let b = before.settled even in let is = b.0 in (omega arith, subst (λ a. NoneOn p k (drop a log)) (sym now) b.1);
        untouched = λ none. let b = before.untouched none in
            record { version_is = same_version ∙ b.version_is; backup_is = b.backup_is; inline_are = same_inline ∙ b.inline_are; node_are = b.node_are };
      }

  -- what such a step shows, after which the words are these and the change in flight this
  pub record Besides (ws : List ℕ) (made : Counted) (writer : Writer) : Type 0 where
    pub stay : OthersStay m.view.plan m.ws ws
    pub versions_are : (k : ℕ) → version_word m.view.plan ws k ≡ version k
    pub inlines_are : (k : ℕ) → inline_words m.view.plan ws k ≡ inline k
    pub wide : length ws ≡ length m.ws
    pub counted : made.seen ≡ length m.view.seen
    pub other : (k : ℕ) → made.kind ≢ VersionLoad k
    pub rises : (k : ℕ) → (world m).version k ≤ version k
    pub still : (k : ℕ) → IsEven ((world m).version k) → version k ≡ (world m).version k → inline k ≡ (world m).inline k
    pub flight : SeatWriter m.view.plan (sites beside) m.id m.view.seen (claim_of OWN m.view) writer
    pub leaves : (s : ℕ) (u : View) → s ≢ m.id → SeatOk m.view.plan (world m) s u → LeavesLocks s (sites (world m)) (sites beside)
    pub versions : (k : ℕ) → k < cells m.view.plan → VersionedAt m.view.plan beside k
    pub lockers : (k s : ℕ) → locker k ≡ s + 1 → s < length m.vs

  module _ {ws : List ℕ} {made : Counted} {writer : Writer} (b : Besides ws made writer) where
    beside_is : world_of m.view.plan ws beside_unwritten ≡ beside
    beside_is = λ i. record {
      class = (world m).class;
      node = λ n. b.stay.node n i;
      backup = λ k. b.stay.backup k i;
      chain = (world m).chain;
      holder = (world m).holder;
      log = (world m).log;
      word = λ w. b.stay.claim w i;
      guard = (world m).guard;
      version = λ k. b.versions_are k i;
      inline = λ k. b.inlines_are k i;
      locker = locker;
      source = source;
    }

    beside_seat : SeatOk m.view.plan beside m.id (record m.view { trail = m.view.trail ++ made ∷ []; writer = writer })
    beside_seat = let o = seat m in let same = b.counted in record {
      plan = o.plan;
      numbers = o.numbers;
      nodes = o.nodes;
      stock = o.stock;
      seen = o.seen;
      earlier = o.earlier;
      lawful = o.lawful;
      trail = trail_step m.view.seen made o.trail (goes_on_same m.view.seen) (omega arith);
      look = o.look;
      claims = beside_claims o.claims;
      scan = o.scan;
      versions = versions_step made b.other (record { found = λ k u found. let a = o.versions.found k u found in let up = b.rises k in omega arith });
      writer = b.flight;
      reader = reader_moves b.rises b.still o.reader;
    }

    pub beside_made : Made m ws (record m.view { trail = m.view.trail ++ made ∷ []; writer = writer })
    beside_made = advance m ws beside_unwritten beside [] (record m.view { trail = m.view.trail ++ made ∷ []; writer = writer }) (record {
      is = beside_is;
      wide = b.wide ∙ m.rule.wide;
      own = beside_seat;
      others = λ s u ne ok. beside_leaves s u (b.leaves s u ne ok);
      versions = b.versions;
      cells = record { cell = λ k lt. cell_stays (world m) beside refl refl refl (λ i h. (h, refl)) (m.rule.cells.cell k lt) };
      guards = m.rule.guards;
      history = m.rule.history;
      lockers = b.lockers;
      budget = le_refl (length (world m).log + m.view.changes);
    })
