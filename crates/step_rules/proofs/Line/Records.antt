-- Whether a seat holds a record, as it sees more and its calls stand.
use Rattle.std.proofs.Common.{◌≡◌, ℕ, Bool, true, List, [], ◌∷◌, ◌++◌, Option, None, length, is_some, cond, eq-eqb, append_assoc, refl, ap, ◌∙◌}
use Rattle.std.proofs.lemmas.Bool.{false≢true}
use Rattle.seat_history.specs.Change.{is_change}
use Rattle.step_rules.specs.Records.{is_change_in}
use Rattle.seat_history.specs.Contents.{Contents}
use Rattle.seat_history.specs.History.{state_at}
use Rattle.seat_history.specs.Step.{held_after}
use Rattle.seat_history.specs.declared.call.Call.{Call}
use Rattle.seat_history.specs.declared.call.Call.TheVariants.{Hold, Release}
use Rattle.seat_history.specs.declared.entry.Entry.{Entry}
use Rattle.seat_history.specs.declared.reply.Reply.{Reply}
use Rattle.step_rules.proofs.Line.Lawfuls.{held_from-append, held_more, placed_in}
use Rattle.step_rules.specs.Holding.{holds_after}
use Rattle.step_rules.specs.Lawful.{Lawful, held_by}
use Rattle.step_rules.specs.SeatData.{holds_record}
use Rattle.step_rules.specs.Views.{changing, claimed_records, entry, number, reading, stood_view, won_view}
use Rattle.step_rules.specs.declared.view.Stand.{Stand}
use Rattle.step_rules.specs.declared.view.View.{View}

-- more is seen
pub held_longer : (v : View) (more log : List Entry) → Lawful v.plan v.numbers v.seen v.stands → log ≡ v.seen ++ more → held_by log (number v) v.stands ≡ held_by v.seen (number v) v.stands
held_longer v more log lawful whole = ap (λ l. held_by l (number v) v.stands) whole ∙ held_more v.seen more (number v) None v.stands (placed_in lawful)

-- one more stand of the caller's
pub held_next : (seen : List Entry) (x : ℕ) (ss : List Stand) (s : Stand) → s.by ≡ x → held_by seen x (ss ++ s ∷ []) ≡ held_after (state_at seen s.place) (held_by seen x ss) s.call
held_next seen x ss s mine = held_from-append seen x None ss (s ∷ []) ∙ ap (λ b. cond b (held_after (state_at seen s.place) (held_by seen x ss) s.call) (held_by seen x ss)) (eq-eqb s.by x mine)

-- a change leaves the record that is held
pub change_holds_in : (c : List (List ℕ)) (d : Contents) (held : Option (List ℕ)) (call : Call) → is_change_in c call ≡ true → held_after d held call ≡ held
change_holds_in c d held (Hold reg) h = absurd (false≢true h)
change_holds_in c d held Release h = absurd (false≢true h)
change_holds_in c d held _ h = refl

pub change_holds : (c d : Contents) (held : Option (List ℕ)) (call : Call) → is_change c call ≡ true → held_after d held call ≡ held
change_holds c d held (Hold reg) h = absurd (false≢true h)
change_holds c d held Release h = absurd (false≢true h)
change_holds c d held _ h = refl

pub is_held_after : (c : Contents) (held : Option (List ℕ)) (call : Call) → is_some (held_after c held call) ≡ holds_after (is_some held) call
is_held_after c held (Hold reg) = refl
is_held_after c held Release = refl
is_held_after c held _ = refl

-- a change leaves the record that is held
pub won_holds : (k x n : ℕ) (call : Call) (v : View) (log rest : List Entry) → Lawful v.plan v.numbers v.seen v.stands → is_change_in (claimed_records v) call ≡ true → log ≡ v.seen ++ rest
    → holds_record (won_view k x n call log v) ≡ holds_record v
won_holds k x n call v log rest lawful changes seen = let e = entry (number v) call in let es = log ++ e ∷ [] in
    ap is_some (held_next es (number v) v.stands (changing log call v) refl
    ∙ (change_holds_in (claimed_records v) (state_at es (length log)) (held_by es (number v) v.stands) call changes
    ∙ held_longer v (rest ++ e ∷ []) es lawful (ap (λ l. l ++ e ∷ []) seen ∙ append_assoc v.seen rest (e ∷ []))))

-- a stand may begin or end it
pub stood_holds : (q : ℕ) (call : Call) (reply : Reply) (v : View) → holds_record (stood_view q call reply v) ≡ holds_after (holds_record v) call
stood_holds q call reply v = ap is_some (held_next v.seen (number v) v.stands (reading q call reply v) refl) ∙ is_held_after (state_at v.seen q) (held_by v.seen (number v) v.stands) call

-- only these two calls say whether a record is held
pub else_holding : (held : Bool) (call : Call) → ((reg : ℕ) → call ≡ Hold reg → ⊥) → (call ≡ Release → ⊥) → held ≡ holds_after held call
else_holding held (Hold reg) a b = absurd (a reg refl)
else_holding held Release a b = absurd (b refl)
else_holding held _ a b = refl
