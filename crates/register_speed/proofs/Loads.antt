-- Before all calls nothing was loaded.
use Rattle.std.proofs.Common.{◌≡◌, ℕ, List, [], ◌∷◌, length, refl, arith}
use Rattle.register_speed.specs.Counting.{HasLoaded, IsNext, blank, is_made, loaded_after}
use Rattle.register_speed.specs.declared.asked.Asked.{Asked}
use Rattle.speed_runs.specs.Carrying.{carried}
use Rattle.speed_runs.specs.Runs.{HasCome}
use Rattle.step_rules.specs.SeatData.{ObjectData, SeatData}
use Rattle.step_rules.specs.declared.view.Stand.{Stand}

pub nothing_loaded : {asked : Asked} {shared : ObjectData} {seat : SeatData} {done : ℕ} → HasCome (IsNext asked) is_made shared 0 seat done → HasLoaded asked shared 0 seat blank done
nothing_loaded {asked} {shared} {seat} {done} come = record { come = come; carried_is = none seat.view.stands come.count }
  where
    none : (stands : List Stand) → length stands ≡ 0 → blank ≡ carried loaded_after blank stands
    none [] e = refl
    none (s ∷ later) e = absurd (omega arith)
