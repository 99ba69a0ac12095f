-- A held front is what an exchange asks for a call: for a replace and a remove, by the record at the place where the key stands.
use Rattle.std.proofs.Common.{◌≡◌, ◌∙◌, ℕ, ◌/◌, ◌^◌, ◌<◌, ◌≤◌, suc, true, eqb, List, [], ◌∷◌, length, take, drop, refl, sym, ap, subst, arith, inl, ⊎_elim}
use Rattle.std.specs.Prelude.{slice_index}
use Rattle.std.proofs.lemmas.Bool.{cases_eq, cond-true, cond-false, eq-eqb, ne_eqb}
use Rattle.std.proofs.lemmas.List.{get_or-set_other, get_or-set_same, length-set, take-append-drop}
use mathlib.Core.Option.{some, some-injective, some-ne-none}
use lib.ListN.{get_elem?}
use Rattle.seat_history.specs.Key.{key_number}
use Rattle.seat_history.specs.declared.call.Call.{Call}
use Rattle.seat_history.specs.declared.call.Call.TheVariants.{Remove, Replace}
use Rattle.seat_history.specs.declared.key.KeyWords.{KeyWords}
use Rattle.step_rules.proofs.World.Contents.{history_before}
use Rattle.step_rules.proofs.Order.LastInserts.{bucket_order}
use Rattle.step_rules.proofs.Numbers.Places.{at_there}
use Rattle.step_rules.specs.Claims.{BACK, IsClaim, OWN, On}
use Rattle.step_rules.specs.Fronts.{IsFront, fallen_of}
use Rattle.step_rules.specs.History.{IsHistory, IsThere, IsWide, cell_of}
use Rattle.step_rules.specs.Kinds.Backup.{MayExchange}
use Rattle.step_rules.specs.Records.{Edit, dropped_count, edit_of, fresh_records, is_change_in, key_in, need, out, place_in, records_of, removes_of, set, with_value}
use Rattle.step_rules.specs.SeatData.{SeatData}
use Rattle.step_rules.specs.Sound.{Sound}
use Rattle.step_rules.specs.Steps.{DropsNoted}
use Rattle.step_rules.specs.Views.{announced, announced_view, claim_of, claimed_edit, claimed_pages, claimed_records, followed, silent}
use Rattle.step_rules.specs.World.{Linked, Once, has, link, nodes_of}
use Rattle.step_rules.specs.declared.view.Claim.{Claim}
use Rattle.step_rules.specs.declared.view.Held.{Held}
use Rattle.step_rules.specs.declared.view.View.{View}

-- what an exchange asks for a call beside its front
pub record MayCall (k x : ℕ) (call : Call) (v : View) : Type 0 where
  pub stands : On (claim_of BACK v) (x / 2)
  pub cell : (claim_of BACK v).cell ≡ k
  pub on : cell_of v.plan call ≡ k
  pub there : IsThere v.plan call
  pub changes : is_change_in (claimed_records v) call ≡ true
  pub wide : IsWide call
  pub left : 0 < v.changes
  pub removes : removes_of call ≤ v.removes

-- what it asks of the front, where these are the claimed pages
abbrev IsFrontOf : ℕ → Call → List Held → List Held → Type 0
IsFrontOf n call own pages =
    let front = followed own n (need (length (records_of pages)) (edit_of (records_of pages) call)) in
    ((m : ℕ) → has (nodes_of front) m ≡ true → has (nodes_of own) m ≡ true)
    × Once (nodes_of front)
    × Linked front (link (drop (dropped_count (length (records_of pages)) (edit_of (records_of pages) call)) pages) 0)
    × (records_of front ≡ fresh_records (records_of pages) (edit_of (records_of pages) call))

-- it has both once the front's first node is announced
module _ {k x n : ℕ} {call : Call} {v : View} (sound : Sound v) (may : MayCall k x call v) (front : IsFront n (claimed_edit call v) v) where
  abbrev u : View
  u = announced_view OWN n v

  four : length v.claims ≡ 4
  four = sound.claims.four

  four_now : length u.claims ≡ 4
  four_now = length-set v.claims OWN (announced OWN n v) ∙ four

  back_same : claim_of BACK u ≡ claim_of BACK v
  back_same = get_or-set_other v.claims OWN BACK (announced OWN n v) (silent 0) (λ e. absurd (omega arith))

  own_is : claim_of OWN u ≡ announced OWN n v
  own_is = get_or-set_same v.claims OWN (announced OWN n v) (silent 0) (omega (arith, four))

  front_now : IsFrontOf n call v.own (claimed_pages u)
  front_now = subst (IsFrontOf n call v.own) (sym (ap (λ (y : Claim). y.pages) back_same)) (front.own, front.once, front.linked, front.records)

  pub front_may : MayExchange k x n call u
  front_may = record {
    back = claim_of BACK u;
    claimed = at_there u.claims BACK (silent 0) (omega (arith, four_now));
    stands = subst (λ (y : Claim). On y (x / 2)) (sym back_same) may.stands;
    cell = ap (λ (y : Claim). y.cell) back_same ∙ may.cell;
    mine = claim_of OWN u;
    announced = at_there u.claims OWN (silent 0) (omega (arith, four_now));
    guarded = subst (λ (y : Claim). On y n) (sym own_is) (record { on = refl; at = refl });
    on = may.on;
    there = may.there;
    changes = ap (λ (y : Claim). is_change_in (records_of y.pages) call) back_same ∙ may.changes;
    wide = may.wide;
    own = front_now.0;
    once = front_now.1;
    linked = front_now.2;
    records = front_now.3;
    left = may.left;
    removes = may.removes;
  }

-- where the links noted are those that fall out of the claimed chain by the call's change
pub drops_fallen : {change : Edit} (call : Call) (seat : SeatData) → change ≡ claimed_edit call seat.view → nodes_of (drop 1 (fallen_of change seat.view)) ≡ seat.noted → DropsNoted call seat
drops_fallen call seat is noted = subst (λ (e : Edit). nodes_of (drop 1 (fallen_of e seat.view)) ≡ seat.noted) is noted

-- the record at a key's place has the key
place_there : (rs : List (List ℕ)) (n : ℕ) (rec : List ℕ) → get_elem? rs (place_in rs n) ≡ some rec → key_in rec ≡ n
place_there [] n rec at = absurd (some-ne-none rec (sym at))
place_there (x ∷ rs) n rec at = ⊎_elim
    (λ e. let here : get_elem? (x ∷ rs) 0 ≡ some rec = ap (get_elem? (x ∷ rs)) (sym (cond-true (eqb (key_in x) n) 0 (suc (place_in rs n)) (eq-eqb (key_in x) n e))) ∙ at in
    ap key_in (sym (some-injective x rec here)) ∙ e)
    (λ ne. place_there rs n rec (ap (get_elem? (x ∷ rs)) (sym (cond-false (eqb (key_in x) n) 0 (suc (place_in rs n)) (ne_eqb (key_in x) n ne))) ∙ at))
    (cases_eq (key_in x) n)

-- a claimed bucket's records are as wide as its claim tells
claimed_words : {x : ℕ} {v : View} (i : ℕ) (rec : List ℕ) → Sound v → On (claim_of BACK v) x → v.plan.registers ≤ (claim_of BACK v).cell → get_elem? (claimed_records v) i ≡ some rec
    → (j : ℕ) → slice_index rec j < 2 ^ 64
claimed_words {x = x} {v = v} i rec sound stands bucket at =
    let at_of : ℕ = (claim_of BACK v).at in
    let told : IsClaim v.plan v.seen (claim_of BACK v) x =
    sound.claims.told BACK x (claim_of BACK v) (at_there v.claims BACK (silent 0) (omega (arith, sound.claims.four))) (inl refl) stands in
    let history : IsHistory v.plan (take at_of v.seen) =
    history_before v.plan (take at_of v.seen) (drop at_of v.seen) (subst (IsHistory v.plan) (sym (take-append-drop at_of v.seen)) sound.history) in
    ((bucket_order v.plan (take at_of v.seen) (claim_of BACK v).cell history bucket).words i rec (ap (λ (l : List (List ℕ)). get_elem? l i) (sym told.records) ∙ at)).below

-- a new value for the record at the key's place is a replace, and the record that falls out there is a remove
pub replace_edit : {k x : ℕ} {v : View} (key : KeyWords) (old new rec : List ℕ) (at : ℕ) → Sound v → MayCall k x (Replace key old new) v → get_elem? (claimed_records v) at ≡ some rec
    → place_in (claimed_records v) (key_number key) ≡ at → set at (with_value rec new) ≡ claimed_edit (Replace key old new) v
replace_edit {v = v} key old new rec at sound may there place =
    let same : key_in rec ≡ key_number key = place_there (claimed_records v) (key_number key) rec (ap (get_elem? (claimed_records v)) place ∙ there) in
    let bucket : v.plan.registers ≤ (claim_of BACK v).cell = omega (arith, may.on, may.cell) in
    let low : slice_index rec 1 < 2 ^ 64 = claimed_words at rec sound may.stands bucket there 1 in
    let key_low : key.k1 < 2 ^ 64 = may.wide.0.1 in
    let first : slice_index rec 0 ≡ key.k0 = omega arith in
    let second : slice_index rec 1 ≡ key.k1 = omega arith in
    λ i. set (sym place i) (first i ∷ second i ∷ new)

pub remove_edit : (key : KeyWords) (at : ℕ) (v : View) → place_in (claimed_records v) (key_number key) ≡ at → out at ≡ claimed_edit (Remove key) v
remove_edit key at v place = ap out (sym place)
