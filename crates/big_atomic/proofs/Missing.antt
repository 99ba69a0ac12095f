-- A swap that is answered No after a load of the old record has seen more of the history.
use Rattle.std.proofs.Common.{◌≡◌, ◌≢◌, ℕ, ◌+◌, ◌*◌, ◌<◌, ◌≤◌, List, ◌++◌, length, refl, ap, subst, ◌∙◌, arith, ⊎_elim, length-append}
use Rattle.std.proofs.lemmas.Bool.{cases_lt}
use Rattle.std.proofs.lemmas.List.{append-nil}
use Rattle.big_atomic.proofs.Sharing.{none_left}
use Rattle.big_atomic.specs.Calls.{IsLoaded, IsSwapped}
use Rattle.big_atomic.specs.Stands.{HasSeenMore}
use Rattle.big_atomic.specs.declared.answers.Swap.TheVariants.{No}
use Rattle.seat_history.specs.History.{state_at}
use Rattle.seat_history.specs.declared.entry.Entry.{Entry}
use Rattle.step_rules.specs.History.{GoesOn}
use Rattle.step_rules.specs.SeatData.{IsOf, ObjectData, SeatData}
use Rattle.step_rules.specs.declared.plan.Plan.{Plan}

same_end : (vs ws : List Entry) → GoesOn vs ws → length ws ≤ length vs → ws ≡ vs
same_end vs ws goes l = let e : length ws ≡ length vs + length goes.0 = ap length goes.1 ∙ length-append vs goes.0 in
    goes.1 ∙ (ap (λ r. vs ++ r) (none_left goes.0 (omega arith)) ∙ append-nil vs)

long : (us vs : List Entry) → GoesOn us vs → length us ≤ length vs
long us vs goes = let e : length vs ≡ length us + length goes.0 = ap length goes.1 ∙ length-append us goes.0 in omega arith

moved : (reg : ℕ) (us vs ws : List Entry) (p q : ℕ) (old : List ℕ) → GoesOn us vs → GoesOn vs ws → length us ≤ p → p ≤ length vs → length vs ≤ q → q ≤ length ws
    → (state_at vs p).registers reg ≡ old → (state_at ws q).registers reg ≢ old → length us < length ws
moved reg us vs ws p q old first second from to after within was unlike = ⊎_elim
    (λ l. l)
    (λ l.
    let a = long us vs first in
    let b = long vs ws second in
    let e : ws ≡ vs = same_end vs ws second (omega arith) in
    let k : q ≡ p = omega arith in
    absurd (unlike (ap (λ (s : List Entry). (state_at s q).registers reg) e ∙ (ap (λ n. (state_at vs n).registers reg) k ∙ was))))
    (cases_lt (length us) (length ws))

pub missed_has_seen_more : (shared : ObjectData) (reg : ℕ) (old new : List ℕ) (before loaded after : SeatData) → IsOf shared before → IsLoaded reg old before loaded
    → IsSwapped reg old new No loaded after → HasSeenMore shared before after
missed_has_seen_more shared reg old new before loaded after ours l e =
    let first = l.answered.stood in
    let second = e.answered.stood in
    record {
      more = moved reg before.view.seen loaded.view.seen after.view.seen l.answered.stand.place e.answered.stand.place old first.seen second.seen
          (omega (arith, first.from, first.after)) first.right.place (omega (arith, second.from, second.after)) second.right.place l.there (e.no refl).unlike;
      within = subst (λ (p : Plan). length after.view.seen ≤ p.seats * p.changes) (second.plan ∙ (first.plan ∙ ours.plan)) second.within;
    }
