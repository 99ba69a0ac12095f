-- What each step makes of its seat's view.
use Rattle.std.specs.Prelude.{ℕ, ◌+◌, ◌*◌, ◌-◌, ◌/◌, ◌%◌, ◌==◌, Bool, true, false, not, ◌&&◌, suc, zero, List, [], ◌∷◌, ◌++◌, Some, None, length, map, filter, take}
use Rattle.std.specs.Prelude.{drop, slice_index, slice_index_or, slice_set, replicate, nat_lt, if◌then◌else◌}
use Rattle.seat_history.specs.History.{state_at}
use Rattle.seat_history.specs.Step.{reply_to}
use Rattle.seat_history.specs.declared.call.Call.{Call}
use Rattle.seat_history.specs.declared.entry.Entry.{Entry}
use Rattle.seat_history.specs.declared.reply.Reply.{Reply}
use Rattle.step_rules.specs.Layout.{cells, claim_at}
use Rattle.step_rules.specs.Lawful.{held_by}
use Rattle.step_rules.specs.Records.{Edit, dropped_count, edit_of, need, records_of, removes_of}
use Rattle.step_rules.specs.World.{has, next_of, nodes_of}
use Rattle.step_rules.specs.declared.layout.TheConstants.{CLAIMS, NODE_WIDTH}
use Rattle.step_rules.specs.declared.plan.Plan.{Plan}
use Rattle.step_rules.specs.declared.view.Claim.{Claim}
use Rattle.step_rules.specs.declared.view.Counted.{Counted}
use Rattle.step_rules.specs.declared.view.Held.{Held}
use Rattle.step_rules.specs.declared.view.Kind.{Kind}
use Rattle.step_rules.specs.declared.view.Kind.TheVariants.{NodeStore, NodeLoad, BackupLoad, BackupExchange, ClaimStore, Recheck, ClaimClear}
use Rattle.step_rules.specs.declared.view.Kind.TheVariants.{ScanLoad, VersionLoad, InlineLoad, VersionAgain, VersionLock, InlineStore, VersionRelease}
use Rattle.step_rules.specs.declared.view.Look.{Look}
use Rattle.step_rules.specs.declared.view.Reader.{Reader}
use Rattle.step_rules.specs.declared.view.Scan.{Scan}
use Rattle.step_rules.specs.declared.view.Stage.TheVariants.{Grounded, Waiting, Locked, Released}
use Rattle.step_rules.specs.declared.view.Stand.{Stand}
use Rattle.step_rules.specs.declared.view.View.{View}
use Rattle.step_rules.specs.declared.view.Writer.{Writer}

-- the least number that a seat holds, under which its calls stand
abbrev pub number : View → ℕ
number v = slice_index v.numbers 0

-- how many nodes a seat has
abbrev pub stock : View → ℕ
stock v = length v.own + length v.retired

abbrev pub counted : Kind → ℕ → ℕ → Counted
counted kind x n = record { kind = kind; found = x; seen = n; stood = false }

abbrev pub entry : ℕ → Call → Entry
entry x call = record { caller = x; call = call }

-- NODE STORE: the word j of the own node n is x
abbrev pub stored_in : ℕ → ℕ → ℕ → Held → Held
stored_in n j x h = if h.node == n then record { node = h.node; words = slice_set h.words j x } else h

abbrev pub stored_view : ℕ → ℕ → ℕ → View → View
stored_view n j x v = record v { own = map (stored_in n j x) v.own; trail = v.trail ++ counted (NodeStore n j x) x (length v.seen) ∷ [] }

-- NODE LOAD
abbrev pub loaded_view : ℕ → ℕ → ℕ → View → View
loaded_view n j x v = record v { trail = v.trail ++ counted (NodeLoad n j) x (length v.seen) ∷ [] }

abbrev pub look_at : ℕ → ℕ → ℕ → Look
look_at k x n = record { cell = k; word = x; at = n }

-- the word x has no mark
abbrev pub is_even : ℕ → Bool
is_even x = (x % 2) == 0

-- a backup load of the reader's cell that found no mark after all words were read
abbrev pub sees_unmarked : Kind → ℕ → ℕ → ℕ → Reader → Reader
sees_unmarked (BackupLoad cell) k x n r = if (k == r.cell) && (is_even x && (length r.words == NODE_WIDTH)) then record r { unmarked = true; at = n } else r
sees_unmarked _ k x n r = r

-- BACKUP LOAD, and a BACKUP EXCHANGE that found another word: the word x was found in the cell k, and the history was this
abbrev pub looked_view : Kind → ℕ → ℕ → List Entry → View → View
looked_view kind k x log v = record v {
  seen = log;
  look = Some (look_at k x (length log));
  trail = v.trail ++ counted kind x (length log) ∷ [];
  reader = sees_unmarked kind k x (length log) v.reader;
}

-- the words of the own node n
abbrev pub words_in : List Held → ℕ → List ℕ
words_in [] n = []
words_in (h ∷ r) n = if h.node == n then h.words else words_in r n

abbrev pub without : ℕ → List Held → List Held
without n own = filter (λ (h : Held). not (h.node == n)) own

-- the stand of a call that changes, as the last entry of the history es
abbrev pub changing : List Entry → Call → View → Stand
changing log call v = record {
  by = number v;
  place = length log;
  call = call;
  reply = reply_to (state_at log (length log)) (held_by log (number v) v.stands) call;
  changes = true;
  stock = stock v;
  numbers = v.numbers;
}

-- a claim word in which no claim stands
abbrev pub silent : ℕ → Claim
silent x = record { word = x; stands = false; image = []; cell = 0; pages = []; at = 0 }

-- the chain that the seat's Back claim stands on, and what a call makes of its records
abbrev pub claimed_pages : View → List Held
claimed_pages v = (slice_index_or v.claims 0 (silent 0)).pages

abbrev pub claimed_records : View → List (List ℕ)
claimed_records v = records_of (claimed_pages v)

abbrev pub claimed_edit : Call → View → Edit
claimed_edit call v = edit_of (claimed_records v) call

-- so many own nodes from n on, linked by their next words
abbrev pub followed : List Held → ℕ → ℕ → List Held
followed own n zero = []
followed own n (suc count) = record { node = n; words = words_in own n } ∷ followed own (next_of (words_in own n) - 1) count

-- the nodes that come in with n, those that fall out, and those that stay
abbrev pub fresh_of : ℕ → Call → View → List Held
fresh_of n call v = followed v.own n (need (length (claimed_records v)) (claimed_edit call v))

abbrev pub dropped_of : Call → View → List Held
dropped_of call v = take (dropped_count (length (claimed_records v)) (claimed_edit call v)) (claimed_pages v)

abbrev pub kept_of : Call → View → List Held
kept_of call v = drop (dropped_count (length (claimed_records v)) (claimed_edit call v)) (claimed_pages v)

-- the nodes but those of a list
abbrev pub without_all : List ℕ → List Held → List Held
without_all ns own = filter (λ (h : Held). not (has ns h.node)) own

-- BACKUP EXCHANGE that won: the history was log, and has the call more; own nodes from n on are the cell's, and those that fell out are retired
abbrev pub won_view : ℕ → ℕ → ℕ → Call → List Entry → View → View
won_view k x n call log v = let es = log ++ entry (number v) call ∷ [] in record v {
  seen = es;
  stands = v.stands ++ changing log call v ∷ [];
  own = without_all (nodes_of (fresh_of n call v)) v.own;
  retired = v.retired ++ nodes_of (dropped_of call v);
  look = Some (look_at k (2 * n + 1) (length es));
  changes = v.changes - 1;
  removes = v.removes - removes_of call;
  trail = v.trail ++ counted (BackupExchange k x n) x (length es) ∷ [];
  since = length v.trail + 1;
  writer = record { stage = Waiting; cell = k; node = n; change = length log; before = v.trail; version = 0; stores = 0 };
}

-- STAND: one more stand, which is no change
abbrev pub reading : ℕ → Call → Reply → View → Stand
reading q call reply v = record { by = number v; place = q; call = call; reply = reply; changes = false; stock = stock v; numbers = v.numbers }

abbrev pub stood_view : ℕ → Call → Reply → View → View
stood_view q call reply v = record v { stands = v.stands ++ reading q call reply v ∷ []; since = length v.trail }

-- a claim on the node n with these words, which was found in the cell k after so many entries, and heads these pages
abbrev pub standing : ℕ → List ℕ → ℕ → List Held → ℕ → Claim
standing n ws k pages at = record { word = n + 1; stands = true; image = ws; cell = k; pages = pages; at = at }

abbrev pub claim_of : ℕ → View → Claim
claim_of c v = slice_index_or v.claims c (silent 0)

-- CLAIM STORE: the node n is announced; a claim on Own, of a node that the seat holds, stands at once
abbrev pub announced : ℕ → ℕ → View → Claim
announced c n v = if c == 2 then standing n (words_in v.own n) 0 [] 0 else silent (n + 1)

-- a store or clear of Own ends the change in flight
abbrev pub grounded_by : ℕ → Writer → Writer
grounded_by c w = if c == 2 then record w { stage = Grounded } else w

abbrev pub announced_view : ℕ → ℕ → View → View
announced_view c n v = record v {
  claims = slice_set v.claims c (announced c n v);
  writer = grounded_by c v.writer;
  trail = v.trail ++ counted (ClaimStore c n) (n + 1) (length v.seen) ∷ [];
}

-- RECHECK that found the node of the word x, which the claim names: the claim stands
abbrev pub claimed_view : ℕ → ℕ → ℕ → ℕ → List ℕ → List Held → List Entry → View → View
claimed_view c k x found ws pages log v = record v {
  seen = log;
  look = Some (look_at k found (length log));
  claims = slice_set v.claims c (standing (found / 2) ws k pages (length log));
  trail = v.trail ++ counted (Recheck c k x) found (length log) ∷ [];
}

-- a claim on Walk, on the node n of the claimed chain
abbrev pub walked_claim : ℕ → ℕ → ℕ → View → Claim
walked_claim n k at v = standing n (words_in (claimed_pages v) n) k [] at

-- RECHECK of Walk that found Back's node
abbrev pub walked_view : ℕ → ℕ → ℕ → ℕ → List Entry → View → View
walked_view n k x found log v = record v {
  seen = log;
  look = Some (look_at k found (length log));
  claims = slice_set v.claims 1 (walked_claim n k (length log) v);
  trail = v.trail ++ counted (Recheck 1 k x) found (length log) ∷ [];
}

-- CLAIM CLEAR
abbrev pub cleared_view : ℕ → View → View
cleared_view c v = record v {
  claims = slice_set v.claims c (silent 0);
  writer = grounded_by c v.writer;
  trail = v.trail ++ counted (ClaimClear c) 0 (length v.seen) ∷ [];
}

-- SCAN LOAD: the word x was found; word 0 begins a scan of the nodes that are retired then
abbrev pub noted : ℕ → List ℕ → List ℕ
noted zero found = found
noted (suc n) found = n ∷ found

abbrev pub scan_of : ℕ → View → Scan
scan_of w v = if w == 0 then record { next = 0; old = v.retired; found = [] } else v.scan

abbrev pub scanned_scan : ℕ → ℕ → View → Scan
scanned_scan w x v = record { next = w + 1; old = (scan_of w v).old; found = noted x (scan_of w v).found }

-- whether a claim of the seat stands in the claim word w
abbrev pub stands_in : ℕ → View → Bool
stands_in w v = if nat_lt w (claim_at (number v) 0) then false else (claim_of (w - claim_at (number v) 0) v).stands

abbrev pub scan_step : ℕ → ℕ → View → Counted
scan_step w x v = record { kind = ScanLoad w; found = x; seen = length v.seen; stood = stands_in w v }

abbrev pub scanned_view : ℕ → ℕ → View → View
scanned_view w x v = record v { scan = scanned_scan w x v; trail = v.trail ++ scan_step w x v ∷ [] }

-- the nodes that the scan frees: the old ones that no word named
abbrev pub is_freed : Scan → ℕ → Bool
is_freed scan n = has scan.old n && not (has scan.found n)

-- the last SCAN LOAD: the nodes that were freed, each with its words, are the seat's own
abbrev pub freed_view : List Held → View → View
freed_view freed v = record v {
  own = v.own ++ freed;
  retired = filter (λ n. not (is_freed v.scan n)) v.retired;
  scan = record { next = 0; old = []; found = [] };
}

-- VERSION LOAD: the word x was found in the cell k, and a read begins
abbrev pub version_view : ℕ → ℕ → View → View
version_view k x v = record v {
  trail = v.trail ++ counted (VersionLoad k) x (length v.seen) ∷ [];
  reader = record { cell = k; version = x; words = []; unmarked = false; at = 0 };
}

-- INLINE LOAD: one word more is read
abbrev pub inline_reader : ℕ → Reader → Reader
inline_reader x r = record r { words = r.words ++ x ∷ [] }

abbrev pub inline_view : ℕ → ℕ → ℕ → View → View
inline_view k j x v = record v { trail = v.trail ++ counted (InlineLoad k j) x (length v.seen) ∷ []; reader = inline_reader x v.reader }

-- VERSION AGAIN
abbrev pub again_view : ℕ → ℕ → View → View
again_view k x v = record v { trail = v.trail ++ counted (VersionAgain k) x (length v.seen) ∷ [] }

-- VERSION LOCK of the version u, which found it: the cell is locked
abbrev pub locked_writer : ℕ → Writer → Writer
locked_writer u w = record w { stage = Locked; version = u; stores = 0 }

abbrev pub locked_view : ℕ → ℕ → View → View
locked_view k u v = record v { trail = v.trail ++ counted (VersionLock k u) u (length v.seen) ∷ []; writer = locked_writer u v.writer }

-- and one that found another version
abbrev pub missed_view : ℕ → ℕ → ℕ → View → View
missed_view k u x v = record v { trail = v.trail ++ counted (VersionLock k u) x (length v.seen) ∷ [] }

-- INLINE STORE: one word more is the node's
abbrev pub copied_writer : Writer → Writer
copied_writer w = record w { stores = w.stores + 1 }

abbrev pub copied_view : ℕ → ℕ → ℕ → View → View
copied_view k j x v = record v { trail = v.trail ++ counted (InlineStore k j x) x (length v.seen) ∷ []; writer = copied_writer v.writer }

-- VERSION RELEASE of the lock on the version u
abbrev pub released_writer : Writer → Writer
released_writer w = record w { stage = Released }

abbrev pub released_view : ℕ → ℕ → View → View
released_view k u v = record v { trail = v.trail ++ counted (VersionRelease k u) (u + 2) (length v.seen) ∷ []; writer = released_writer v.writer }

-- SPLIT: the first seat keeps all numbers but the last, and the new seat has that one, each with its share
abbrev pub left_view : View → View
left_view v = let n = length v.numbers - 1 in record v {
  numbers = take n v.numbers;
  own = take (v.plan.share * n) v.own;
  changes = v.plan.changes * n;
  removes = v.plan.removes * n;
}

abbrev pub right_view : View → View
right_view v = let n = length v.numbers - 1 in record v {
  numbers = drop n v.numbers;
  own = drop (v.plan.share * n) v.own;
  changes = v.plan.changes;
  removes = v.plan.removes;
}

-- JOIN: all that the other seat has goes to the first
abbrev pub longer : List Entry → List Entry → List Entry
longer a b = if nat_lt (length a) (length b) then b else a

abbrev pub shorter : List Entry → List Entry → List Entry
shorter a b = if nat_lt (length a) (length b) then a else b

abbrev pub joined_view : View → View → View
joined_view v w = record v {
  numbers = v.numbers ++ w.numbers;
  seen = longer v.seen w.seen;
  earlier = shorter v.seen w.seen;
  stands = v.stands ++ w.stands;
  since = length v.trail;
  own = v.own ++ w.own;
  retired = v.retired ++ w.retired;
  changes = v.changes + w.changes;
  removes = v.removes + w.removes;
}

-- a view with these numbers and own nodes that knows nothing
abbrev pub blank_view : Plan → List ℕ → List Held → View
blank_view p numbers own = record {
  plan = p;
  numbers = numbers;
  seen = [];
  earlier = [];
  stands = [];
  trail = [];
  since = 0;
  own = own;
  retired = [];
  look = None;
  changes = p.changes * length numbers;
  removes = p.removes * length numbers;
  claims = replicate CLAIMS (silent 0);
  scan = record { next = 0; old = []; found = [] };
  reader = record { cell = 0; version = 1; words = []; unmarked = false; at = 0 };
  writer = record { stage = Grounded; cell = 0; node = 0; change = 0; before = []; version = 0; stores = 0 };
}

-- what is left of a view that was joined to another
abbrev pub spent_view : View
spent_view = blank_view (record { seats = 0; share = 0; registers = 0; buckets = 0; changes = 0; removes = 0 }) [] []

-- the n numbers from m on
abbrev pub count_up : ℕ → ℕ → List ℕ
count_up m zero = []
count_up m (suc n) = m ∷ count_up (suc m) n

abbrev pub zero_node : ℕ → Held
zero_node n = record { node = n; words = replicate NODE_WIDTH 0 }

-- the first seat holds all numbers and all free nodes
abbrev pub starting : Plan → View
starting p = blank_view p (count_up 0 p.seats) (map zero_node (count_up (cells p) (p.seats * p.share)))
