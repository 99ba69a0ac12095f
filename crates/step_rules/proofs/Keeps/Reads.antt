-- INLINE LOAD and VERSION AGAIN keep the rule.
use Rattle.std.proofs.Common.{◌≡◌, ℕ, ◌<◌, ◌%◌, suc, List, [], ◌∷◌, ◌++◌, length, get_or, take, refl, sym, ap, ◌∙◌, subst, arith, le_refl, length-append}
use mathlib.Core.Option.{none}
use Rattle.atomic_table.specs.Table.{step, Allows}
use Rattle.step_rules.specs.Kinds.Versions.{EndsRead, MayEndRead, MayRead}
use Rattle.step_rules.specs.Layout.{cells, inline_at, version_at}
use Rattle.step_rules.specs.Plays.{Mine, inline_loaded, loaded_again}
use Rattle.step_rules.specs.Readers.{IsFirst}
use Rattle.step_rules.specs.Records.{records_at}
use Rattle.step_rules.specs.Rule.{Holds}
use Rattle.step_rules.specs.Seats.{SeatOk}
use Rattle.step_rules.specs.Views.{again_view, counted, inline_view}
use Rattle.step_rules.specs.World.{World}
use Rattle.step_rules.specs.declared.layout.TheConstants.{NODE_WIDTH}
use Rattle.step_rules.specs.declared.plan.Plan.{Plan}
use Rattle.step_rules.specs.declared.view.Kind.TheVariants.{InlineLoad, VersionAgain}
use Rattle.step_rules.specs.declared.view.View.{View}
use Rattle.step_rules.proofs.Keeps.Loads.{counted_ok}
use Rattle.step_rules.proofs.Line.Trails.{goes_on_same, trail_step}
use Rattle.step_rules.proofs.Numbers.Places.{at_there, take_to}
use Rattle.step_rules.proofs.Rely.Moments.{load_owed, moment, own_step, seat, world}
use Rattle.step_rules.proofs.Rely.Writers.{versions_step}
use Rattle.step_rules.proofs.World.Frames.{inline_is, inline_wide, one_inline, one_version, version_is}

-- one word more, where the words before are the first ones of the list
read_more : (l ws : List ℕ) (x : ℕ) → length ws < length l → x ≡ get_or l (length ws) 0 → take (length ws) l ≡ ws → take (length (ws ++ x ∷ [])) l ≡ ws ++ x ∷ []
read_more l ws x room is before =
    let longer : length (ws ++ x ∷ []) ≡ suc (length ws) = omega (arith, length-append ws (x ∷ [])) in
    ap (λ n. take n l) longer ∙ (take_to l (length ws) (get_or l (length ws) 0) (at_there l (length ws) 0 room) ∙ (λ i. before i ++ sym is i ∷ []))

read_ok : (p : Plan) (W : World) (id k j x : ℕ) (v : View) → MayRead k j v → length (W.inline k) ≡ NODE_WIDTH → x ≡ get_or (W.inline k) j 0 → SeatOk p W id v → SeatOk p W id (inline_view k j x v)
read_ok p W id k j x v may wide is ok = record {
  plan = ok.plan;
  numbers = ok.numbers;
  nodes = ok.nodes;
  stock = ok.stock;
  seen = ok.seen;
  earlier = ok.earlier;
  lawful = ok.lawful;
  trail = trail_step v.seen (counted (InlineLoad k j) x (length v.seen)) ok.trail (goes_on_same v.seen) (le_refl (length v.seen));
  look = ok.look;
  claims = ok.claims;
  scan = ok.scan;
  versions = versions_step (counted (InlineLoad k j) x (length v.seen)) (λ i e. cc) ok.versions;
  writer = ok.writer;
  reader = let o = ok.reader in let r = v.reader in let next = may.next in let low = may.inside in record {
    sound = record {
      cell = o.sound.cell;
      at = o.sound.at;
      long = omega (arith, length-append r.words (x ∷ []));
      whole = λ e. absurd (let all = o.sound.whole e in omega arith);
    };
    old = o.old;
    words = λ even same. subst (λ i. take (length (r.words ++ x ∷ [])) (W.inline i) ≡ r.words ++ x ∷ []) (sym may.cell)
        (read_more (W.inline k) r.words x (omega arith) (is ∙ ap (λ i. get_or (W.inline k) i 0) (sym next)) (ap (λ i. take (length r.words) (W.inline i)) (sym may.cell) ∙ o.words even same));
    told = λ even e. absurd (let all = o.sound.whole e in omega arith);
  };
}

-- the cell of a read is there
reader_inside : {p : Plan} {W : World} {id : ℕ} {v : View} {k : ℕ} → SeatOk p W id v → v.reader.cell ≡ k → v.reader.version % 2 ≡ 0 → k < cells p
reader_inside {p = p} ok cell even = subst (λ i. i < cells p) cell (ok.reader.sound.cell even)

pub reads_inline : (slots id : ℕ) (me : Mine) (k j : ℕ) → 0 < length me.0.numbers → MayRead k j me.0
    → Allows (Holds me.0.plan) slots id me (inline_at me.0.plan k j) (λ x. x) (inline_loaded (step slots (inline_at me.0.plan k j) 0 0 none) me)
reads_inline slots id me k j numbered may s r _ at _ =
    let p = me.0.plan in
    let m = moment id me numbered s r at in
    let inside = reader_inside (seat m) may.cell may.even in
    let x = get_or s.words (inline_at p k j) 0 in
    let w = inline_view k j x me.0 in
    let ok = read_ok p (world m) id k j x me.0 may (inline_wide p s.words k m.rule.wide inside) (inline_is p s.words k j inside may.inside) (seat m) in
    load_owed id me numbered s r at _ (inline_at p k j) w (own_step m w ok (le_refl me.0.changes)) refl numbered
    (λ a b e lt. let q = one_inline p k j a b e may.inside lt in λ i. inline_view (q.0 i) (q.1 i) x me.0)

pub reads_again : (slots id : ℕ) (me : Mine) (k : ℕ) → 0 < length me.0.numbers → MayEndRead k me.0
    → Allows (Holds me.0.plan) slots id me (version_at me.0.plan k) (λ x. x) (loaded_again (step slots (version_at me.0.plan k) 0 0 none) me)
reads_again slots id me k numbered may s r _ at _ =
    let p = me.0.plan in
    let v = me.0 in
    let m = moment id me numbered s r at in
    let inside = reader_inside (seat m) may.cell may.even in
    let x = get_or s.words (version_at p k) 0 in
    let w = again_view k x v in
    let ok = counted_ok p (world m) id v (counted (VersionAgain k) x (length v.seen)) v.scan (seat m) refl (λ j e. cc) (seat m).scan in
    let ends : EndsRead k x v = λ same.
    let now : (world m).version v.reader.cell ≡ v.reader.version = ap (world m).version may.cell ∙ (sym (version_is p s.words k inside) ∙ same) in
    subst (λ j. IsFirst (records_at p (take v.reader.at v.seen) j) v.reader.words) may.cell ((seat m).reader.told may.even may.unmarked now) in
    load_owed id me numbered s r at _ (version_at p k) w (own_step m w ok (le_refl v.changes)) refl numbered
    (λ j e. let q = one_version p k j e in subst (λ i. (w ≡ again_view i x v) × EndsRead i x v) q (refl, ends))
