-- What each stand of a line keeps.
use Rattle.std.specs.Prelude.{List, [], ◌∷◌, ◌++◌}
use Rattle.seat_history.specs.Object.{Object}
use Rattle.seat_history.specs.declared.entry.Entry.{Entry}
use Rattle.step_rules.specs.Line.{IsAnswered, after_stand}
use Rattle.step_rules.specs.declared.plan.Plan.{Plan}
use Rattle.step_rules.specs.declared.view.Stand.{Stand}

-- what holds of an object and of the stands before it holds again after one more stand with P, which the object answers
abbrev pub EachKeeps : Plan → (Stand → Type 0) → (List Stand → Object → Type 0) → Type 0
EachKeeps p P Keeps = (done : List Stand) (o : Object) (log : List Entry) (s : Stand) → P s → IsAnswered p o log s → Keeps done o
    → Keeps (done ++ s ∷ []) (after_stand o s)
