-- From what clap says of a parse to what the words ask for.
use mathlib.Core.List.{cons≢nil}
use Rattle.std.specs.Prelude.{◌&&◌}
use Rattle.std.proofs.Common.{◌≡◌, ◌≢◌, refl, subst, Bool, true, false, Option, None, List, [], ◌∷◌, inl, inr}
use Rattle.clap.specs.Faults.{is_free_app}
use Rattle.clap.specs.Words.{App, HasKind, IsAmong, Kinds, Row, Text, fault_of, is_simple, is_simple_and_free, kind_of, matches_of, built}
use Rattle.clap.specs.declared.error.Error.{Error}
use Rattle.clap.specs.declared.error.kind.ErrorKind.{ErrorKind}
use Rattle.flow_tally.specs.declared.words.Asked.{Asked}
use Rattle.flow_tally.specs.declared.words.Asked.TheVariants as asked_as
use Rattle.flow_tally.specs.Words.{Command, Gives, IsRefusal, RefusesWords, asked_by, faults_in, rows_in, unless_faulty}

pub simple : (app : App) → is_simple_and_free app ≡ true → is_simple app ≡ true
simple app free = left (is_simple app) (is_free_app (built app)) free
  where
    left : (a b : Bool) → (a && b) ≡ true → a ≡ true
    left true b e = refl
    left false b e = e

pub faults_are : (app : App) (ws : List Text) → fault_of app ws ≡ faults_in app ws
unfolding faults_in
faults_are app ws = refl

pub rows_are : (app : App) (ws : List Text) → matches_of app ws ≡ rows_in app ws
unfolding rows_in
rows_are app ws = refl

some_fault : (kinds : Kinds) (k : ErrorKind) → IsAmong k kinds → kinds ≢ []
some_fault [] k among = absurd among
some_fault (x ∷ kinds) k among = λ e. absurd (cons≢nil e)

-- a refusal of clap is one of words with faults
pub refused_by : (kinds : Kinds) (e : Error) (w : Asked) → HasKind kinds e → IsRefusal (kind_of e) w → RefusesWords kinds w
refused_by kinds e (asked_as.Tally words) has is = absurd is
refused_by kinds e (asked_as.Drive words) has is = absurd is
refused_by kinds e asked_as.Usage (inl memory) is = absurd (is memory)
refused_by kinds e asked_as.Usage (inr among) is = some_fault kinds (kind_of e) among
refused_by kinds e asked_as.NoMemory has is = tt

none_asked : (kinds : Kinds) (asked : Option Command) → kinds ≢ [] → unless_faulty kinds asked ≡ None
none_asked [] asked some = absurd (some refl)
none_asked (k ∷ kinds) asked some = refl

nothing_given : (kinds : Kinds) (asked : Option Command) (w : Asked) → RefusesWords kinds w → Gives w (unless_faulty kinds asked)
nothing_given kinds asked (asked_as.Tally words) refuses = absurd refuses
nothing_given kinds asked (asked_as.Drive words) refuses = absurd refuses
nothing_given kinds asked asked_as.Usage refuses = none_asked kinds asked refuses
nothing_given kinds asked asked_as.NoMemory refuses = tt

-- so the words ask for nothing by the definition of this command
pub refused_gives : (app : App) (from : List Row → Option Command) (ws : List Text) (w : Asked) {a : App} → a ≡ app → RefusesWords (faults_in a ws) w → Gives w (asked_by app from ws)
refused_gives app from ws w is refuses =
    nothing_given (faults_in app ws) (from (rows_in app ws)) w (subst (λ (x : App). RefusesWords (faults_in x ws) w) is refuses)
