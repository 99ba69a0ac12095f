-- What a seat's call of each step owes, at the table's key and the word's place.
use Rattle.std.proofs.Common.{◌≡◌, ◌≢◌, ℕ, ◌+◌, ◌*◌, ◌<◌, ◌==◌, true, length, sym, ap, ◌∙◌, subst, arith, ⊎_elim}
use mathlib.Core.Option.{none}
use prog.Atomic.{either}
use Rattle.atomic_table.specs.Table.{step, Allows, State}
use Rattle.seat_history.specs.declared.call.Call.{Call}
use Rattle.seat_history.specs.declared.reply.Reply.{Reply}
use Rattle.step_rules.proofs.Keeps.Claiming.{announces, clears, rechecks}
use Rattle.step_rules.proofs.Keeps.Copies.{copies}
use Rattle.step_rules.proofs.Keeps.Exchanges.{exchanges}
use Rattle.step_rules.proofs.Keeps.Locks.{locks, version_loads}
use Rattle.step_rules.proofs.Keeps.Marks.{unmarks}
use Rattle.step_rules.proofs.Keeps.Reads.{reads_again, reads_inline}
use Rattle.step_rules.proofs.Keeps.Releases.{releases}
use Rattle.step_rules.proofs.Keeps.Loads.{glances, loads, settles, stands}
use Rattle.step_rules.proofs.Keeps.Looks.{looks}
use Rattle.step_rules.proofs.Keeps.Scans.{scans}
use Rattle.step_rules.proofs.Keeps.Walks.{walk_tells, walks}
use Rattle.step_rules.proofs.Keeps.Stores.{stores}
use Rattle.step_rules.specs.Claims.{OWN, Tells}
use Rattle.step_rules.specs.Kinds.Backup.{MayExchange}
use Rattle.step_rules.specs.Kinds.Claiming.{MayAnnounce, MayScan}
use Rattle.step_rules.specs.Kinds.Standing.{MayStand}
use Rattle.step_rules.specs.Kinds.Versions.{MayCopy, MayEndRead, MayLock, MayRead, MayRelease, MayUnmark}
use Rattle.step_rules.specs.Kinds.Walking.{MayRecheck}
use Rattle.step_rules.specs.Layout.{cells, backup_at, claim_at, inline_at, node_at, version_at, words}
use Rattle.step_rules.specs.Plays.{Mine, announced, cleared, copied, exchanged, glanced, inline_loaded, loaded, loaded_again, locked, looked}
use Rattle.step_rules.specs.Plays.{rechecked, rechecked_any, released, scanned, settled, stood, stored, unmarked, version_loaded, walked}
use Rattle.step_rules.specs.Rule.{Holds}
use Rattle.step_rules.specs.SeatData.{IsOf, ObjectData, SeatData}
use Rattle.step_rules.specs.Steps.{IsUnannounced}
use Rattle.step_rules.specs.Views.{number}
use Rattle.step_rules.specs.World.{has, nodes_of}
use Rattle.step_rules.specs.declared.layout.TheConstants.{CLAIMS, NODE_WIDTH}
use Rattle.step_rules.specs.declared.plan.Plan.{Plan}
use Rattle.step_rules.specs.declared.view.Stage.TheVariants.{Locked}
use Rattle.step_rules.specs.declared.view.View.{View}

-- the object's plan, as the seat knows it
pub plan_of : {seat seat' : SeatData} {object : ObjectData} → seat ≡ seat' → IsOf object seat' → object.plan ≡ seat.view.plan
plan_of is ours = sym (ap (λ (s : SeatData). s.view.plan) is ∙ ours.plan)

-- a seat and an object as they are inside, where the seat is of the object as a call's contract sees them
pub record Meets (seat : SeatData) (object seen : ObjectData) (key : Plan) (count : ℕ) : Type 0 where
  pub table : seat.object ≡ object.object
  pub key_is : seat.view.plan ≡ key
  pub plan : seen.plan ≡ seat.view.plan
  -- a place by the object's plan is one by the seat's, and is in the table
  pub at : (f : Plan → ℕ) (place : ℕ) → place ≡ f seen.plan → place ≡ f seat.view.plan
  pub within : (place : ℕ) → place < words seen.plan → place < count

pub meets : {seat seat' : SeatData} {object seen : ObjectData} {key : Plan} {count : ℕ} → seat ≡ seat' → object ≡ seen → IsOf seen seat' → object.plan ≡ key
    → count ≡ words object.plan
    → Meets seat object seen key count
meets is object_is ours same_key counted = let same_plan = plan_of is ours in record {
  table = ap (λ (s : SeatData). s.object) is ∙ (ours.object ∙ ap (λ (o : ObjectData). o.object) (sym object_is));
  key_is = sym same_plan ∙ (ap (λ (o : ObjectData). o.plan) (sym object_is) ∙ same_key);
  plan = same_plan;
  at = λ f place e. e ∙ ap f same_plan;
  within = λ place lt. subst (λ n. place < n) (ap (λ (o : ObjectData). words o.plan) (sym object_is) ∙ sym counted) lt;
}

-- a step tells what follows of what it tells
allows_weaker : (holds : State Call View → Type 0) (slots id : ℕ) (me : Mine) (place : ℕ) (f : ℕ → ℕ) (P Q : ℕ → Mine → Type 0) → ((x : ℕ) (m : Mine) → P x m → Q x m)
    → Allows holds slots id me place f P → Allows holds slots id me place f Q
allows_weaker holds slots id me place f P Q so allows s h long at small = let r = allows s h long at small in (r.0, r.1, r.2, r.3, so _ _ r.4)

one_less : (n m : ℕ) → n + 1 ≡ m + 1 → n ≡ m
one_less n m e = omega arith

module _ (key : Plan) (slots id : ℕ) (me : Mine) (place : ℕ) (numbered : 0 < length me.0.numbers) (ours : me.0.plan ≡ key) where
  pub store_call : (n j x : ℕ) → place ≡ node_at me.0.plan n j → has (nodes_of me.0.own) n ≡ true → IsUnannounced n me.0 → j < NODE_WIDTH
      → Allows (Holds key) slots id me place (λ _. x) (λ _. stored (step slots place x 0 none) me x)
  store_call n j x at own unannounced inside = subst (λ (z : Plan × ℕ). Allows (Holds z.0) slots id me z.1 (λ _. x) (λ _. stored (step slots z.1 x 0 none) me x)) (λ i. (ours i, sym at i))
      (stores slots id me n j x numbered own unannounced inside)

  pub load_call : (n j : ℕ) → place ≡ node_at me.0.plan n j → j < NODE_WIDTH → Allows (Holds key) slots id me place (λ x. x) (loaded (step slots place 0 0 none) me)
  load_call n j at inside = subst (λ (z : Plan × ℕ). Allows (Holds z.0) slots id me z.1 (λ x. x) (loaded (step slots z.1 0 0 none) me)) (λ i. (ours i, sym at i))
      (loads slots id me n j numbered inside)

  pub glance_call : (n j : ℕ) → place ≡ node_at me.0.plan n j → j < NODE_WIDTH → Allows (Holds key) slots id me place (λ x. x) (glanced (step slots place 0 0 none) me)
  glance_call n j at inside = subst (λ (z : Plan × ℕ). Allows (Holds z.0) slots id me z.1 (λ x. x) (glanced (step slots z.1 0 0 none) me)) (λ i. (ours i, sym at i))
      (glances slots id me n j numbered inside)

  pub look_call : (k : ℕ) → place ≡ backup_at me.0.plan k → k < cells me.0.plan → Allows (Holds key) slots id me place (λ x. x) (looked (step slots place 0 0 none) me)
  look_call k at inside = subst (λ (z : Plan × ℕ). Allows (Holds z.0) slots id me z.1 (λ x. x) (looked (step slots z.1 0 0 none) me)) (λ i. (ours i, sym at i))
      (looks slots id me k numbered inside)

  pub exchange_call : (k x n new : ℕ) (call : Call) → place ≡ backup_at me.0.plan k → new ≡ 2 * n + 1 → MayExchange k x n call me.0
      → Allows (Holds key) slots id me place (λ y. either (y == x) new y) (exchanged call (step slots place x new none) me)
  exchange_call k x n new call at is may =
      subst (λ (z : Plan × ℕ × ℕ). Allows (Holds z.0) slots id me z.1 (λ y. either (y == x) z.2 y) (exchanged call (step slots z.1 x z.2 none) me)) (λ i. (ours i, sym at i, sym is i))
      (exchanges slots id me k x n call numbered may)

  pub stand_call : (q : ℕ) (call : Call) (reply : Reply) → MayStand q call reply me.0 → Allows (Holds key) slots id me place (λ x. x) (stood q call reply (step slots place 0 0 none) me)
  stand_call q call reply may = subst (λ (p : Plan). Allows (Holds p) slots id me place (λ x. x) (stood q call reply (step slots place 0 0 none) me)) ours
      (stands slots id me place q call reply numbered may)

  pub claim_call : (c n x : ℕ) → place ≡ claim_at (number me.0) c → x ≡ n + 1 → MayAnnounce c n me.0
      → Allows (Holds key) slots id me place (λ _. x) (λ _. announced (step slots place x 0 none) me x)
  claim_call c n x at is may = subst (λ (z : Plan × ℕ × ℕ). Allows (Holds z.0) slots id me z.1 (λ _. z.2) (λ _. announced (step slots z.1 z.2 0 none) me z.2))
      (λ i. (ours i, sym at i, sym is i))
      (announces slots id me c n numbered may)

  pub clear_call : (c : ℕ) → place ≡ claim_at (number me.0) c → c < CLAIMS → (c ≡ OWN → me.0.writer.stage ≢ Locked)
      → Allows (Holds key) slots id me place (λ _. 0) (λ _. cleared (step slots place 0 0 none) me 0)
  clear_call c at inside unlocked = subst (λ (z : Plan × ℕ). Allows (Holds z.0) slots id me z.1 (λ _. 0) (λ _. cleared (step slots z.1 0 0 none) me 0)) (λ i. (ours i, sym at i))
      (clears slots id me c numbered inside unlocked)

  pub recheck_call : (c k y : ℕ) → place ≡ backup_at me.0.plan k → k < cells me.0.plan → MayRecheck c k y me.0
      → Allows (Holds key) slots id me place (λ x. x) (rechecked_any c y (step slots place 0 0 none) me)
  recheck_call c k y at inside may = subst (λ (z : Plan × ℕ). Allows (Holds z.0) slots id me z.1 (λ x. x) (rechecked_any c y (step slots z.1 0 0 none) me)) (λ i. (ours i, sym at i)) (⊎_elim
      (λ tells. allows_weaker _ slots id me (backup_at me.0.plan k) (λ x. x) (rechecked c y (step slots (backup_at me.0.plan k) 0 0 none) me)
      (rechecked_any c y (step slots (backup_at me.0.plan k) 0 0 none) me)
      (λ x m told. (λ _. told, λ walk. absurd (walk_tells (subst Tells walk tells)))) (rechecks slots id me c k y numbered tells inside (may.named tells)))
      (λ walk. let w = may.walks walk in
      allows_weaker _ slots id me (backup_at me.0.plan k) (λ x. x) (walked y w.0 (step slots (backup_at me.0.plan k) 0 0 none) me) (rechecked_any c y (step slots (backup_at me.0.plan k) 0 0 none) me)
      (λ x m told. (
        λ tells. absurd (walk_tells (subst Tells walk tells)),
        λ _ n named. subst (λ i. walked y i (step slots (backup_at me.0.plan k) 0 0 none) me x m)
            (one_less w.0 n (sym w.1.named ∙ named)) told,
      ))
      (walks slots id me k y w.0 numbered inside w.1))
      may.claim)

  pub scan_call : MayScan place me.0 → Allows (Holds key) slots id me place (λ x. x) (scanned (step slots place 0 0 none) me)
  scan_call may = subst (λ (p : Plan). Allows (Holds p) slots id me place (λ x. x) (scanned (step slots place 0 0 none) me)) ours (scans slots id me place numbered may)

  pub version_call : (k : ℕ) → place ≡ version_at me.0.plan k → k < cells me.0.plan → Allows (Holds key) slots id me place (λ x. x) (version_loaded (step slots place 0 0 none) me)
  version_call k at inside = subst (λ (z : Plan × ℕ). Allows (Holds z.0) slots id me z.1 (λ x. x) (version_loaded (step slots z.1 0 0 none) me)) (λ i. (ours i, sym at i))
      (version_loads slots id me k numbered inside)

  pub inline_call : (k j : ℕ) → place ≡ inline_at me.0.plan k j → MayRead k j me.0 → Allows (Holds key) slots id me place (λ x. x) (inline_loaded (step slots place 0 0 none) me)
  inline_call k j at may = subst (λ (z : Plan × ℕ). Allows (Holds z.0) slots id me z.1 (λ x. x) (inline_loaded (step slots z.1 0 0 none) me)) (λ i. (ours i, sym at i))
      (reads_inline slots id me k j numbered may)

  pub again_call : (k : ℕ) → place ≡ version_at me.0.plan k → MayEndRead k me.0 → Allows (Holds key) slots id me place (λ x. x) (loaded_again (step slots place 0 0 none) me)
  again_call k at may = subst (λ (z : Plan × ℕ). Allows (Holds z.0) slots id me z.1 (λ x. x) (loaded_again (step slots z.1 0 0 none) me)) (λ i. (ours i, sym at i))
      (reads_again slots id me k numbered may)

  pub lock_call : (k u new : ℕ) → place ≡ version_at me.0.plan k → new ≡ u + 1 → MayLock k u me.0
      → Allows (Holds key) slots id me place (λ y. either (y == u) new y) (locked (step slots place u new none) me)
  lock_call k u new at is may =
      subst (λ (z : Plan × ℕ × ℕ). Allows (Holds z.0) slots id me z.1 (λ y. either (y == u) z.2 y) (locked (step slots z.1 u z.2 none) me)) (λ i. (ours i, sym at i, sym is i))
      (locks slots id me k u numbered may)

  pub copy_call : (k j x : ℕ) → place ≡ inline_at me.0.plan k j → MayCopy k j x me.0 → Allows (Holds key) slots id me place (λ _. x) (λ _. copied (step slots place x 0 none) me x)
  copy_call k j x at may = subst (λ (z : Plan × ℕ). Allows (Holds z.0) slots id me z.1 (λ _. x) (λ _. copied (step slots z.1 x 0 none) me x)) (λ i. (ours i, sym at i))
      (copies slots id me k j x numbered may)

  pub release_call : (k u x : ℕ) → place ≡ version_at me.0.plan k → x ≡ u + 2 → MayRelease k u me.0
      → Allows (Holds key) slots id me place (λ _. x) (λ _. released (step slots place x 0 none) me x)
  release_call k u x at is may = subst (λ (z : Plan × ℕ × ℕ). Allows (Holds z.0) slots id me z.1 (λ _. z.2) (λ _. released (step slots z.1 z.2 0 none) me z.2))
      (λ i. (ours i, sym at i, sym is i))
      (releases slots id me k u numbered may)

  pub unmark_call : (k n old new : ℕ) → place ≡ backup_at me.0.plan k → old ≡ 2 * n + 1 → new ≡ 2 * n → MayUnmark k n me.0
      → Allows (Holds key) slots id me place (λ y. either (y == old) new y) (unmarked (step slots place old new none) me)
  unmark_call k n old new at was is may =
      subst (λ (z : Plan × ℕ × ℕ × ℕ). Allows (Holds z.0) slots id me z.1 (λ y. either (y == z.2) z.3 y) (unmarked (step slots z.1 z.2 z.3 none) me))
      (λ i. (ours i, sym at i, sym was i, sym is i))
      (unmarks slots id me k n numbered may)

  pub settle_call : Allows (Holds key) slots id me place (λ x. x) (settled (step slots place 0 0 none) me)
  settle_call = subst (λ (p : Plan). Allows (Holds p) slots id me place (λ x. x) (settled (step slots place 0 0 none) me)) ours (settles slots id me place numbered)
