-- What the steps tell.
use Rattle.std.specs.Prelude.{◌≡◌, ◌≢◌, ℕ, ◌+◌, ◌*◌, ◌<◌, suc}
use Rattle.atomic_table.specs.Table.{Me, Step}
use Rattle.seat_history.specs.declared.call.Call.{Call}
use Rattle.seat_history.specs.declared.reply.Reply.{Reply}
use Rattle.step_rules.specs.Claims.{Tells, WALK}
use Rattle.step_rules.specs.Kinds.Backup.{Looks, Wins}
use Rattle.step_rules.specs.Kinds.Claiming.{FindsOwn, Frees, Rechecks}
use Rattle.step_rules.specs.Kinds.Node.{Reads}
use Rattle.step_rules.specs.Kinds.Versions.{EndsRead}
use Rattle.step_rules.specs.Kinds.Walking.{WalkRechecks}
use Rattle.step_rules.specs.Layout.{backup_at, claim_at, inline_at, node_at, version_at}
use Rattle.step_rules.specs.Sound.{Sound}
use Rattle.step_rules.specs.Views.{again_view, announced_view, claim_of, cleared_view, copied_view, inline_view, locked_view, missed_view}
use Rattle.step_rules.specs.Views.{number, released_view, scanned_view, loaded_view, stood_view, stored_view, version_view}
use Rattle.step_rules.specs.declared.layout.TheConstants.{CLAIMS, NODE_WIDTH}
use Rattle.step_rules.specs.declared.view.Kind.TheVariants.{BackupLoad, BackupExchange, MarkClear}
use Rattle.step_rules.specs.declared.view.View.{View}

abbrev pub Mine : Type 0
Mine = Me Call View

-- each step leaves a sound view, and takes no slot
abbrev pub Told : Mine → Mine → Type 0 → Type 0
Told m m' fact = (m'.1 ≡ m.1) × Sound m'.0 × fact

-- NODE STORE
abbrev pub stored : Step Call → Mine → ℕ → Mine → Type 0
stored st m x m' = Told m m' ((n j : ℕ) → st.word ≡ node_at m.0.plan n j → j < NODE_WIDTH → m'.0 ≡ stored_view n j x m.0)

-- NODE LOAD
abbrev pub loaded : Step Call → Mine → ℕ → Mine → Type 0
loaded st m x m' = Told m m' ((n j : ℕ) → st.word ≡ node_at m.0.plan n j → j < NODE_WIDTH → (m'.0 ≡ loaded_view n j x m.0) × Reads n j x m.0)

-- a load of a node's word that isn't counted
abbrev pub glanced : Step Call → Mine → ℕ → Mine → Type 0
glanced st m x m' = Told m m' ((n j : ℕ) → st.word ≡ node_at m.0.plan n j → j < NODE_WIDTH → (m'.0 ≡ m.0) × Reads n j x m.0)

-- BACKUP LOAD
abbrev pub looked : Step Call → Mine → ℕ → Mine → Type 0
looked st m x m' = Told m m' ((k : ℕ) → st.word ≡ backup_at m.0.plan k → Looks (BackupLoad k) k x m.0 m'.0)

-- BACKUP EXCHANGE, for the call
abbrev pub exchanged : Call → Step Call → Mine → ℕ → Mine → Type 0
exchanged call st m x m' = Told m m' ((k n : ℕ) → st.word ≡ backup_at m.0.plan k → st.second ≡ 2 * n + 1
    → (x ≡ st.first → Wins k st.first n call m.0 m'.0) × (x ≢ st.first → Looks (BackupExchange k st.first n) k x m.0 m'.0))

-- CLAIM STORE; the number stored is the node's and 1
abbrev pub announced : Step Call → Mine → ℕ → Mine → Type 0
announced st m x m' = Told m m' ((c n : ℕ) → st.word ≡ claim_at (number m.0) c → c < CLAIMS → x ≡ n + 1 → m'.0 ≡ announced_view c n m.0)

-- RECHECK of the claim c, which was announced for the node of the word y
abbrev pub rechecked : ℕ → ℕ → Step Call → Mine → ℕ → Mine → Type 0
rechecked c y st m x m' = Told m m' ((k : ℕ) → st.word ≡ backup_at m.0.plan k → Rechecks c k y x m.0 m'.0)

-- RECHECK of Walk, which was announced for the node n of the chain that Back's node, that of the word y, heads
abbrev pub walked : ℕ → ℕ → Step Call → Mine → ℕ → Mine → Type 0
walked y n st m x m' = Told m m' ((k : ℕ) → st.word ≡ backup_at m.0.plan k → WalkRechecks k y x n m.0 m'.0)

-- RECHECK of any of these claims
abbrev pub rechecked_any : ℕ → ℕ → Step Call → Mine → ℕ → Mine → Type 0
rechecked_any c y st m x m' = (Tells c → rechecked c y st m x m') × (c ≡ WALK → (n : ℕ) → (claim_of WALK m.0).word ≡ n + 1 → walked y n st m x m')

-- CLAIM CLEAR
abbrev pub cleared : Step Call → Mine → ℕ → Mine → Type 0
cleared st m x m' = Told m m' ((c : ℕ) → st.word ≡ claim_at (number m.0) c → c < CLAIMS → m'.0 ≡ cleared_view c m.0)

-- SCAN LOAD; the last one frees
abbrev pub scanned : Step Call → Mine → ℕ → Mine → Type 0
scanned st m x m' = Told m m'
    (FindsOwn st.word x m.0 × (suc st.word < CLAIMS * m.0.plan.seats → m'.0 ≡ scanned_view st.word x m.0) × (suc st.word ≡ CLAIMS * m.0.plan.seats → Frees st.word x m.0 m'.0))

-- STAND, a load of word 0
abbrev pub stood : ℕ → Call → Reply → Step Call → Mine → ℕ → Mine → Type 0
stood q call reply st m x m' = Told m m' (st.word ≡ 0 → m'.0 ≡ stood_view q call reply m.0)

-- VERSION LOAD
abbrev pub version_loaded : Step Call → Mine → ℕ → Mine → Type 0
version_loaded st m x m' = Told m m' ((k : ℕ) → st.word ≡ version_at m.0.plan k → m'.0 ≡ version_view k x m.0)

-- INLINE LOAD
abbrev pub inline_loaded : Step Call → Mine → ℕ → Mine → Type 0
inline_loaded st m x m' = Told m m' ((k j : ℕ) → st.word ≡ inline_at m.0.plan k j → j < NODE_WIDTH → m'.0 ≡ inline_view k j x m.0)

-- VERSION AGAIN
abbrev pub loaded_again : Step Call → Mine → ℕ → Mine → Type 0
loaded_again st m x m' = Told m m' ((k : ℕ) → st.word ≡ version_at m.0.plan k → (m'.0 ≡ again_view k x m.0) × EndsRead k x m.0)

-- VERSION LOCK
abbrev pub locked : Step Call → Mine → ℕ → Mine → Type 0
locked st m x m' = Told m m' ((k : ℕ) → st.word ≡ version_at m.0.plan k → (x ≡ st.first → m'.0 ≡ locked_view k st.first m.0) × (x ≢ st.first → m'.0 ≡ missed_view k st.first x m.0))

-- INLINE STORE
abbrev pub copied : Step Call → Mine → ℕ → Mine → Type 0
copied st m x m' = Told m m' ((k j : ℕ) → st.word ≡ inline_at m.0.plan k j → j < NODE_WIDTH → m'.0 ≡ copied_view k j x m.0)

-- VERSION RELEASE; the number stored is the locked version and 2
abbrev pub released : Step Call → Mine → ℕ → Mine → Type 0
released st m x m' = Told m m' ((k u : ℕ) → st.word ≡ version_at m.0.plan k → x ≡ u + 2 → m'.0 ≡ released_view k u m.0)

-- MARK CLEAR, which is a look in any case
abbrev pub unmarked : Step Call → Mine → ℕ → Mine → Type 0
unmarked st m x m' = Told m m' ((k n : ℕ) → st.word ≡ backup_at m.0.plan k → st.first ≡ 2 * n + 1 → Looks (MarkClear k n) k x m.0 m'.0)

-- a load that changes nothing
abbrev pub settled : Step Call → Mine → ℕ → Mine → Type 0
settled st m x m' = Told m m' (m'.0 ≡ m.0)
