-- What a seat sees of a register's cell, by a load of its backup or an exchange that found another word.
use Rattle.std.proofs.Common.{◌≡◌, ◌≢◌, ℕ, suc, true, ◌+◌, ◌/◌, ◌<◌, ◌≤◌, [], ◌∷◌, ◌++◌, List, Some, length, drop, take, refl, sym, ap, ◌∙◌, subst}
use Rattle.std.proofs.Common.{le_refl, append-nil, arith}
use Rattle.std.proofs.lemmas.List.{take_all}
use mathlib.Core.Option.{some}
use lib.ListN.{get_elem?}
use Rattle.seat_history.specs.Contents.{Contents}
use Rattle.seat_history.specs.History.{state_at}
use Rattle.seat_history.specs.declared.entry.Entry.{Entry}
use Rattle.step_rules.specs.Cells.{IsCell, register_chain}
use Rattle.step_rules.specs.Claims.{OWN, On, SeatClaims, Tells}
use Rattle.step_rules.specs.History.{NoneBy, NoneOn}
use Rattle.step_rules.specs.Kinds.Backup.{Looks}
use Rattle.step_rules.specs.Lawful.{Lawful}
use Rattle.step_rules.specs.Layout.{cells, nodes}
use Rattle.step_rules.specs.Looks.{IsLook, LookHolds, SeatLook}
use Rattle.step_rules.specs.Nodes.{IsNode}
use Rattle.step_rules.specs.Readers.{IsFirst, SeatReader}
use Rattle.step_rules.specs.Recent.{IsRecent}
use Rattle.step_rules.specs.Records.{IsCounted, records_at, records_of}
use Rattle.step_rules.specs.Rule.{backup_word}
use Rattle.step_rules.specs.Versions.{IsEven}
use Rattle.step_rules.specs.Seats.{SeatOk}
use Rattle.step_rules.specs.Stock.{IsStock}
use Rattle.step_rules.specs.Views.{claim_of, counted, look_at, looked_view, number, sees_unmarked}
use Rattle.step_rules.specs.World.{World, Linked, Live, Chained, has, link}
use Rattle.step_rules.specs.Writers.{SeatWriter, sites}
use Rattle.step_rules.specs.declared.plan.Plan.{Plan}
use Rattle.step_rules.specs.declared.view.Claim.{Claim}
use Rattle.step_rules.specs.declared.view.Held.{Held}
use Rattle.step_rules.specs.declared.view.Kind.{Kind}
use Rattle.step_rules.specs.declared.view.Kind.TheVariants.{VersionLoad}
use Rattle.step_rules.specs.declared.view.Look.{Look}
use Rattle.step_rules.specs.declared.view.View.{View}
use Rattle.step_rules.proofs.Rely.Advance.{goes_further}
use Rattle.step_rules.proofs.World.Chains.{chained_linked}
use Rattle.step_rules.proofs.Rely.Claimed.{claims_more}
use Rattle.step_rules.proofs.Order.Pages.{first_of}
use Rattle.step_rules.proofs.Rely.Readers.{reader_more, sees_reader}
use Rattle.step_rules.proofs.World.Frames.{inline_wide}
use Rattle.step_rules.proofs.Rely.Writers.{versions_step, writer_more}
use Rattle.step_rules.proofs.Order.Edits.{one_node}
use Rattle.step_rules.proofs.Line.Lawfuls.{lawful_more}
use Rattle.step_rules.proofs.Rely.Moments.{Made, Moment, own_step, seat, world}
use Rattle.step_rules.proofs.Order.RecordsTell.{register_records}
use Rattle.step_rules.proofs.Line.Stocks.{stock_more}
use Rattle.step_rules.proofs.Line.Trails.{trail_step}

-- the node of a cell, which heads its chain
pub record CellNode (p : Plan) (W : World) (k : ℕ) : Type 0 where
  pub rest : List Held
  pub chain : W.chain k ≡ record { node = W.backup k / 2; words = W.node (W.backup k / 2) } ∷ rest
  pub class : W.class (W.backup k / 2) ≡ Live k
  pub is : IsNode p (record { node = W.backup k / 2; words = W.node (W.backup k / 2) })

pub cell_node : (p : Plan) (W : World) (k : ℕ) → IsCell p W k → CellNode p W k
cell_node p W k cell = go (W.chain k) refl
  where
    go : (l : List Held) → W.chain k ≡ l → CellNode p W k
    go [] e = absurd (let z : 0 ≡ W.backup k / 2 + 1 = ap (λ l. link l 0) (sym e) ∙ cell.head in omega arith)
    go (h ∷ r) e =
        let z : suc h.node ≡ W.backup k / 2 + 1 = ap (λ l. link l 0) (sym e) ∙ cell.head in
        let n : h.node ≡ W.backup k / 2 = omega arith in
        let c = subst (λ l. Chained W (Live k) l 0) e cell.chained in
        let w : h.words ≡ W.node (W.backup k / 2) = sym c.1 ∙ ap W.node n in
        let same : h ≡ record { node = W.backup k / 2; words = W.node (W.backup k / 2) } = λ i. record { node = n i; words = w i } in record {
          rest = r;
          chain = e ∙ ap (λ (x : Held). x ∷ r) same;
          class = ap W.class (sym n) ∙ c.0;
          is = subst (IsNode p) same (cell.node 0 h (ap (λ l. get_elem? l 0) e));
        }

-- the node of a register's cell, with the register's record
pub record RegisterNode (p : Plan) (W : World) (contents : Contents) (k : ℕ) : Type 0 where
  pub chain : W.chain k ≡ register_chain (W.backup k / 2) (contents.registers k)
  pub class : W.class (W.backup k / 2) ≡ Live k
  pub words : W.node (W.backup k / 2) ≡ contents.registers k ++ 0 ∷ []
  pub is : IsNode p (record { node = W.backup k / 2; words = contents.registers k ++ 0 ∷ [] })

pub register_node : (p : Plan) (W : World) (k : ℕ) → k < p.registers → IsCell p W k → RegisterNode p W (state_at W.log (length W.log)) k
register_node p W k inside cell =
    let rec = (state_at W.log (length W.log)).registers k in
    let e = one_node (W.chain k) (W.backup k / 2) rec cell.head (chained_linked W (Live k) (W.chain k) 0 cell.chained) (λ i h at. (cell.node i h at).wide)
    (cell.records ∙ register_records p W.log k inside) cell.counted in
    let c = subst (λ l. Chained W (Live k) l 0) e cell.chained in record {
      chain = e;
      class = c.0;
      words = c.1;
      is = cell.node 0 (record { node = W.backup k / 2; words = rec ++ 0 ∷ [] }) (ap (λ l. get_elem? l 0) e);
    }

-- and has the words of the cell's first record
pub node_first : (p : Plan) (W : World) (k : ℕ) → IsCell p W k → IsFirst (records_at p W.log k) (W.node (W.backup k / 2))
node_first p W k cell =
    let node = cell_node p W k cell in
    let h : Held = record { node = W.backup k / 2; words = W.node (W.backup k / 2) } in
    subst (λ rs. IsFirst rs h.words) (ap records_of (sym node.chain) ∙ cell.records)
    (first_of h node.rest (subst IsCounted node.chain cell.counted) (subst (λ l. Linked l 0) node.chain (chained_linked W (Live k) (W.chain k) 0 cell.chained)))

-- the last look is this one
pub look_now : (p : Plan) (backup : ℕ → ℕ) (log : List Entry) (k x : ℕ) → k < cells p → x / 2 < nodes p → backup k ≡ x → SeatLook p backup log log (Some (look_at k x (length log)))
look_now p backup log k x inside there named = record {
  is = λ l e. subst (IsLook p log) (one_look l e) (record { cell = inside; there = there; at = le_refl (length log) });
  holds = λ l e. subst (LookHolds p backup log) (one_look l e) (record { same = λ _. ap (λ z. z / 2) named; falls = λ _. omega arith });
}
  where
    one_look : (l : Look) → Some (look_at k x (length log)) ≡ Some l → look_at k x (length log) ≡ l
    one_look l e = cc

-- what is known of a seat's stock and of its stands, after more of the history is seen
module _ {p : Plan} {W : World} {s : ℕ} {v : View} (ok : SeatOk p W s v) (rest es : List Entry) (more : es ≡ v.seen ++ rest) where
  pub stock_seen : IsStock p (length v.numbers) es v.stands (length v.own + length v.retired) v.removes
  stock_seen = subst (λ (l : List Entry). IsStock p (length v.numbers) l v.stands (length v.own + length v.retired) v.removes) (sym more)
      (stock_more rest (λ i t e. (ok.lawful.right i t e).place) ok.stock)

  pub lawful_seen : ((x : ℕ) → has v.numbers x ≡ true → NoneBy x rest) → Lawful p v.numbers es v.stands
  lawful_seen none = subst (λ (l : List Entry). Lawful p v.numbers l v.stands) (sym more) (lawful_more rest none ok.lawful)

  pub claims_seen : SeatClaims p W s v.numbers (number v) es v.claims
  claims_seen = subst (λ (l : List Entry). SeatClaims p W s v.numbers (number v) l v.claims) (sym more) (claims_more rest ok.claims)

  pub writer_seen : SeatWriter p (sites W) s es (claim_of OWN v) v.writer
  writer_seen = subst (λ (l : List Entry). SeatWriter p (sites W) s l (claim_of OWN v) v.writer) (sym more) (writer_more rest ok.writer)

module _ (m : Moment) (kind : Kind) (k : ℕ) (inside : k < cells m.view.plan) where
  abbrev p : Plan
  p = m.view.plan

  abbrev v : View
  v = m.view

  abbrev log : List Entry
  log = m.unwritten.log

  abbrev x : ℕ
  x = backup_word p m.ws k

  abbrev pub seeing : View
  seeing = looked_view kind k x log v

  -- an even version and no mark, so the inline words are those of the cell's first node
  words_first : (ws : List ℕ) → IsEven x → (world m).inline k ≡ ws → IsFirst (records_at p (take (length log) log) k) ws
  words_first ws unmarked is =
      let at = m.rule.versions k inside in
      let settled = at.settled unmarked in
      subst (λ (z : List Entry × List ℕ). IsFirst (records_at p z.0 k) z.1)
      (λ i. (sym (take_all (length log) log (le_refl (length log))) i, (sym (at.copied settled.0 settled.1) ∙ is) i))
      (node_first p (world m) k (m.rule.cells.cell k inside))

  reader_then : SeatReader p (world m).version (world m).inline log (sees_unmarked kind k x (length log) v.reader)
  reader_then =
      let o = seat m in
      let r = v.reader in
      let before : SeatReader p (world m).version (world m).inline log r =
      subst (λ (l : List Entry). SeatReader p (world m).version (world m).inline l r) (sym o.seen.whole) (reader_more o.seen.rest o.reader) in
      sees_reader (SeatReader p (world m).version (world m).inline log) kind k x (length log) r before (λ same unmarked whole. record {
        sound = record { cell = before.sound.cell; at = le_refl (length log); long = before.sound.long; whole = λ _. whole };
        old = before.old;
        words = before.words;
        told = λ even _ is.
            let wide = inline_wide p m.ws k m.rule.wide inside in
            let all : take (length r.words) ((world m).inline k) ≡ r.words = ap (λ j. take (length r.words) ((world m).inline j)) same ∙ before.words even is in
            subst (λ j. IsFirst (records_at p (take (length log) log) j) r.words) same
            (words_first r.words unmarked (sym (take_all (length r.words) ((world m).inline k) (omega arith)) ∙ all));
      })

  pub sees_seat : ((j : ℕ) → kind ≢ VersionLoad j) → SeatOk p (world m) m.id seeing
  sees_seat other = let o = seat m in record {
    plan = o.plan;
    numbers = o.numbers;
    nodes = o.nodes;
    stock = stock_seen o o.seen.rest log o.seen.whole;
    seen = record { rest = []; whole = sym (append-nil log); own = λ y has. tt };
    earlier = goes_further v.earlier v.seen log o.seen.rest o.earlier o.seen.whole;
    lawful = lawful_seen o o.seen.rest log o.seen.whole o.seen.own;
    trail = trail_step log (counted kind x (length log)) o.trail (o.seen.rest, o.seen.whole) (le_refl (length log));
    look = look_now p (world m).backup log k x inside (cell_node p (world m) k (m.rule.cells.cell k inside)).is.there refl;
    claims = claims_seen o o.seen.rest log o.seen.whole;
    scan = o.scan;
    versions = versions_step (counted kind x (length log)) other o.versions;
    writer = writer_seen o o.seen.rest log o.seen.whole;
    reader = reader_then;
  }

  -- an entry on the cell since the last look at it, where another word was found there
  pub sees_moved : (l : Look) → v.look ≡ Some l → l.cell ≡ k → x / 2 ≢ l.word / 2 → ¬ NoneOn p k (drop l.at log)
  sees_moved l e on ne none = ne (ap (λ j. backup_word p m.ws j / 2) (sym on) ∙ ((seat m).look.holds l e).same (subst (λ j. NoneOn p j (drop l.at log)) (sym on) none))

  -- and the mark at most cleared, where there is none
  pub sees_falls : (l : Look) → v.look ≡ Some l → l.cell ≡ k → NoneOn p k (drop l.at log) → x ≤ l.word
  sees_falls l e on none = subst (λ j. backup_word p m.ws j ≤ l.word) on (((seat m).look.holds l e).falls (subst (λ j. NoneOn p j (drop l.at log)) (sym on) none))

  -- what is seen is the whole history
  pub sees_recent : IsRecent p k x log
  sees_recent = record { words = m.ws; views = m.vs; unwritten = m.unwritten; rule = m.rule; whole = refl; found = refl }

  -- an entry on the cell since a claim on another node of it stands
  sees_gone : (c n : ℕ) (y : Claim) → get_elem? v.claims c ≡ some y → Tells c → On y n → y.cell ≡ k → x / 2 ≢ n → ¬ NoneOn p k (drop y.at log)
  sees_gone c n y e tells stands on ne none = ne (ap (λ j. backup_word p m.ws j / 2) (sym on) ∙ (seat m).claims.stays c n y e tells stands (subst (λ j. NoneOn p j (drop y.at log)) (sym on) none))

  pub sees_told : Looks kind k x v seeing
  sees_told = let o = seat m in record {
    log = log;
    after = refl;
    rest = o.seen.rest;
    seen = o.seen.whole;
    others = o.seen.own;
    recent = sees_recent;
    moved = sees_moved;
    falls = sees_falls;
    calm = λ c n y e tells stands on same. subst (λ j. NoneOn p j (drop y.at log)) on (o.claims.calm c n y e tells stands (ap (λ j. backup_word p m.ws j / 2) on ∙ same));
    gone = sees_gone;
  }

  pub sees : ((j : ℕ) → kind ≢ VersionLoad j) → Made m m.ws seeing
  sees other = own_step m seeing (sees_seat other) (le_refl v.changes)
