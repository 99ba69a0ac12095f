-- BACKUP LOAD keeps the rule.
use Rattle.std.proofs.Common.{ℕ, ◌<◌, length, sym, subst, refl}
use mathlib.Core.Option.{none}
use Rattle.atomic_table.specs.Table.{step, Allows}
use Rattle.step_rules.proofs.World.Frames.{backup_is, one_cell}
use Rattle.step_rules.proofs.Rely.Moments.{load_owed, moment}
use Rattle.step_rules.proofs.Rely.Seeing.{seeing, sees, sees_told}
use Rattle.step_rules.specs.Kinds.Backup.{Looks}
use Rattle.step_rules.specs.Layout.{backup_at, cells}
use Rattle.step_rules.specs.Plays.{Mine, looked}
use Rattle.step_rules.specs.Rule.{Holds}
use Rattle.step_rules.specs.declared.view.Kind.TheVariants.{BackupLoad}

pub looks : (slots id : ℕ) (me : Mine) (k : ℕ) → 0 < length me.0.numbers → k < cells me.0.plan
    → Allows (Holds me.0.plan) slots id me (backup_at me.0.plan k) (λ x. x) (looked (step slots (backup_at me.0.plan k) 0 0 none) me)
looks slots id me k numbered inside s r _ at _ =
    let m = moment id me numbered s r at in
    let is = backup_is me.0.plan s.words k inside in
    load_owed id me numbered s r at _ (backup_at me.0.plan k) (seeing m (BackupLoad k) k inside) (sees m (BackupLoad k) k inside (λ j e. cc)) refl numbered (λ j e. let q = one_cell me.0.plan k j e in
    subst (λ (z : ℕ × ℕ). Looks (BackupLoad z.0) z.0 z.1 me.0 (seeing m (BackupLoad k) k inside)) (λ i. (q i, sym is i)) (sees_told m (BackupLoad k) k inside))
