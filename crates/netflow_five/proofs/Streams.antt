-- The datagrams of a file, collected as it is read.
use Rattle.std.specs.Prelude.{Result, Ok, Err, IfSome, MatchOption}
use Rattle.std.proofs.Common.{◌≡◌, ◌∙◌, ℕ, ◌+◌, ◌-◌, ◌<◌, ◌≤◌, true, Option, Some, None, List, [], ◌++◌, length, take, drop, refl, sym, ap, subst, arith, append_assoc}
use Rattle.std.proofs.lemmas.List.{append-nil, length-append, length-drop, nil_from_length, take-append-drop, take_at, drop_at}
use Rattle.wire_ports.specs.FeedMoments.{FeedAt, HasGiven, EndsEarly, ReadsBehind, ReadsRest}
use Rattle.wire_ports.specs.declared.whole.ReadEnd.{ReadEnd}
use Rattle.wire_ports.specs.declared.whole.ReadEnd.TheVariants as reading
use Rattle.wire_ports.proofs.FeedMoments.{none_given, given_more, given_to_end, failed_later}
use Rattle.netflow_five.specs.Fault.{IsFault}
use Rattle.netflow_five.specs.File.{joined, IsFile, IsBad}
use Rattle.netflow_five.specs.Next.{ReadTo, StopsAt, IsShort, CameTo, CollectsFront, CollectsSome, CollectsTo}
use Rattle.netflow_five.specs.Streaming.{CollectsFile, end_of}
use Rattle.netflow_five.specs.declared.malformed.Malformed.{Malformed as Cause}
use Rattle.netflow_five.specs.declared.file_end.FileEnd.{FileEnd}
use Rattle.netflow_five.specs.declared.file_end.FileEnd.TheVariants.{Malformed, NoMemory}
use Rattle.netflow_five.proofs.Faults.{lasts, short_bytes}
use Rattle.netflow_five.proofs.Files.{all_append, bad_here, joined-append}

-- nothing is collected of no datagrams
pub came_none : {C : Type 0} (holds : C → List (List ℕ) → Type 0) (now : C) → CameTo holds now [] now
came_none holds now = λ before had. subst (λ (ds : List (List ℕ)). holds now ds) (sym (append-nil before)) had

-- datagrams after datagrams
pub came_more : {C : Type 0} (holds : C → List (List ℕ) → Type 0) (a b c : C) (ds es : List (List ℕ)) → CameTo holds a ds b → CameTo holds b es c → CameTo holds a (ds ++ es) c
came_more holds a b c ds es first second = λ before had.
    subst (λ (all : List (List ℕ)). holds c all) (append_assoc before ds es) (second (before ++ ds) (first before had))

-- what is left begins with no datagram either
pub stops_at_front : (bytes : List ℕ) (at : ℕ) (cause : Option Cause) → StopsAt bytes at cause → StopsAt (drop at bytes) 0 cause
stops_at_front bytes at None stops = omega (arith, stops, length-drop at bytes)
stops_at_front bytes at (Some cause) stops = (omega (arith, stops.0, length-drop at bytes), stops.1)

-- what is left has room for more behind it
pub rest_short : (rest : List ℕ) (cause : Option Cause) → StopsAt rest 0 cause → IfSome cause IsShort → length rest < 1464
rest_short rest None stops short = omega (arith, stops)
rest_short rest (Some cause) stops short = short_bytes rest cause short stops.1

-- the bytes up to a place are these datagrams, and the rest is left
pub front_read : {C : Type 0} {holds : C → List (List ℕ) → Type 0} {bytes : List ℕ} {old new : C} {at : ℕ} {ds : List (List ℕ)}
    → ReadTo bytes at ds → CameTo holds old ds new → CollectsFront holds bytes old ds (drop at bytes) new
front_read {C} {holds} {bytes} {old} {new} {at} {ds} read came = record {
  each = read.file.each;
  whole = sym (take-append-drop at bytes) ∙ ap (λ (z : List ℕ). z ++ drop at bytes) read.file.whole;
  came = came;
}

module _ {C : Type 0} {holds : C → List (List ℕ) → Type 0} {bytes rest : List ℕ} {a b : C} {ds : List (List ℕ)} (front : CollectsFront holds bytes a ds rest b) where
  -- more bytes come behind the rest
  pub front_longer : (more : List ℕ) → CollectsFront holds (bytes ++ more) a ds (rest ++ more) b
  front_longer more = record {
    each = front.each;
    whole = ap (λ (z : List ℕ). z ++ more) front.whole ∙ append_assoc (joined ds) rest more;
    came = front.came;
  }

  -- the rest begins with datagrams in its turn
  pub front_more : {c : C} {es : List (List ℕ)} {left : List ℕ} → CollectsFront holds rest b es left c → CollectsFront holds bytes a (ds ++ es) left c
  front_more {c} {es} {left} next = record {
    each = all_append ds es front.each next.each;
    whole = front.whole ∙ ap (λ (z : List ℕ). joined ds ++ z) next.whole ∙ sym (append_assoc (joined ds) (joined es) left)
        ∙ ap (λ (z : List ℕ). z ++ left) (sym (joined-append ds es));
    came = came_more holds a b c ds es front.came next.came;
  }

  -- with nothing left the bytes are these datagrams
  pub front_file : rest ≡ [] → IsFile bytes ds
  front_file none = record { each = front.each; whole = front.whole ∙ ap (λ (z : List ℕ). joined ds ++ z) none ∙ append-nil (joined ds) }

  front_size : length bytes ≡ length (joined ds) + length rest
  front_size = ap length front.whole ∙ length-append (joined ds) rest

  front_is : ReadTo bytes (length (joined ds)) ds
  front_is = record {
    file = record {
      each = front.each;
      whole = ap (take (length (joined ds))) front.whole ∙ take_at (joined ds) rest (length (joined ds)) refl;
    };
    within = omega (arith, front_size);
  }

  -- what comes before the rest was collected
  pub front_until : CollectsTo holds bytes (length bytes - length rest) a b
  front_until =
      let at : length (joined ds) ≡ length bytes - length rest = omega (arith, front_size) in
      (ds, subst (λ (k : ℕ). ReadTo bytes k ds) at front_is, front.came)

  pub front_some : CollectsSome holds bytes a b
  front_some = (length bytes - length rest, front_until)

  -- bytes whose rest begins with no datagram are no file
  pub front_bad : (cause : Cause) → 0 < length rest → IsFault rest cause → IsBad bytes (length bytes - length rest) cause
  front_bad cause some fault =
      let size = front_size in
      let at : length (joined ds) ≡ length bytes - length rest = omega arith in
      let last : drop (length (joined ds)) bytes ≡ rest = ap (drop (length (joined ds))) front.whole ∙ drop_at (joined ds) rest (length (joined ds)) refl in
      subst (λ (k : ℕ). IsBad bytes k cause) at
      (bad_here bytes (length (joined ds)) ds cause front_is (omega arith) (subst (λ (z : List ℕ). IsFault z cause) (sym last) fault))

-- these bytes were read, so many: these datagrams, which came to what was collected, and those in the window
pub record SoFar {C : Type 0} (holds : C → List (List ℕ) → Type 0) (start : FeedAt) (old : C) (read : ℕ) (bytes : List ℕ) (ds : List (List ℕ)) (window : List ℕ)
    (now : FeedAt) (new : C) : Type 0 where
  pub count : read ≡ length bytes
  pub given : HasGiven bytes start now
  pub front : CollectsFront holds bytes old ds window new

pub none_so_far : {C : Type 0} (holds : C → List (List ℕ) → Type 0) (start : FeedAt) (old : C) → start.started ≡ true → SoFar holds start old 0 [] [] [] start old
none_so_far holds start old started = record {
  count = refl;
  given = none_given start started;
  front = record { each = tt; whole = refl; came = came_none holds old };
}

module _ {C : Type 0} {holds : C → List (List ℕ) → Type 0} {start now : FeedAt} {old new : C} {read : ℕ} {bytes window : List ℕ} {ds : List (List ℕ)}
    (so_far : SoFar holds start old read bytes ds window now new) where
  -- more bytes were read, and with them further datagrams are there
  pub more_so_far : {n : ℕ} {filled rest : List ℕ} {es : List (List ℕ)} {later : FeedAt} {last : C} (reads : ReadsBehind window now n filled later)
      → CollectsFront holds filled new es rest last → SoFar holds start old (read + n) (bytes ++ reads.bytes) (ds ++ es) rest later last
  more_so_far {n} {filled} {rest} {es} {later} {last} reads next = record {
    count = omega (arith, so_far.count, reads.count, length-append bytes reads.bytes);
    given = given_more so_far.given reads.given;
    front = front_more (subst (λ (z : List ℕ). CollectsFront holds (bytes ++ reads.bytes) old ds z new) (sym reads.behind) (front_longer so_far.front reads.bytes)) next;
  }

  early : (most : ℕ) (later : FeedAt) (end : ReadEnd) → read ≤ most → EndsEarly (most - read) now later end → CollectsFile holds most start old later new (Err (end_of end))
  early most later reading.Failed few ends = (
    bytes ++ ends.0,
    omega (arith, ends.1, so_far.count, length-append bytes ends.0),
    failed_later so_far.given ends.2,
    front_some (front_longer so_far.front ends.0),
  )
  early most later reading.TooLarge few ends = (
    bytes ++ ends.0,
    omega (arith, ends.1, so_far.count, length-append bytes ends.0),
    given_more so_far.given ends.2,
    front_some (front_longer so_far.front ends.0),
  )
  early most later reading.NoMemory few ends = (
    bytes ++ ends.0,
    omega (arith, ends.1, so_far.count, length-append bytes ends.0),
    given_more so_far.given ends.2,
    front_some (front_longer so_far.front ends.0),
  )

  -- a read that ends the reading ends the collecting
  pub ends_early : {most : ℕ} (later : FeedAt) (end : ReadEnd) (told : FileEnd) → read ≤ most → EndsEarly (most - read) now later end → told ≡ end_of end
      → CollectsFile holds most start old later new (Err told)
  ends_early {most} later end told few ends is =
      subst (λ (e : FileEnd). CollectsFile holds most start old later new (Err e)) (sym is) (early most later end few ends)

  -- want of memory after a read, with some first datagrams of what the window has collected
  pub ends_wanting : {most n : ℕ} {filled : List ℕ} {later : FeedAt} {last : C} → ReadsBehind window now n filled later → read ≤ most → n ≤ most - read
      → CollectsSome holds filled new last → CollectsFile holds most start old later last (Err NoMemory)
  ends_wanting {most} {n} {filled} {later} {last} reads few fits (at, (es, read_to, came)) =
      let all : SoFar holds start old (read + n) (bytes ++ reads.bytes) (ds ++ es) (drop at filled) later last = more_so_far reads (front_read read_to came) in (
        bytes ++ reads.bytes,
        omega (arith, so_far.count, reads.count, length-append bytes reads.bytes),
        given_more so_far.given reads.given,
        front_some all.front,
      )

  -- the rest of the file mends no fault that lasts
  pub bad_in_rest : {most n left : ℕ} {later : FeedAt} {cause : Option Cause} (fault : Cause) → StopsAt window 0 cause → cause ≡ Some fault → (IsShort fault → ⊥)
      → ReadsRest now n later → read ≤ most → n ≤ most - read → left ≡ length window → CollectsFile holds most start old later new (Err (Malformed (read - left) fault))
  bad_in_rest {most} {n} {left} {later} {cause} fault stops is long reads few fits left_is =
      let here : StopsAt window 0 (Some fault) = subst (λ (o : Option Cause). StopsAt window 0 o) is stops in
      let all = bytes ++ reads.bytes in
      let size : length all ≡ read + n = omega (arith, so_far.count, reads.count, length-append bytes reads.bytes) in
      let behind : length (window ++ reads.bytes) ≡ left + n = omega (arith, left_is, reads.count, length-append window reads.bytes) in
      let at : length all - length (window ++ reads.bytes) ≡ read - left = omega arith in (
        all,
        omega arith,
        given_more so_far.given reads.given,
        reads.at_end,
        subst (λ (k : ℕ). IsBad all k fault) at
            (front_bad (front_longer so_far.front reads.bytes) fault (omega (arith, here.0, length-append window reads.bytes)) (lasts window reads.bytes fault long here.1)),
        subst (λ (k : ℕ). CollectsTo holds all k old new) at (front_until (front_longer so_far.front reads.bytes)),
      )

  -- at the file's end nothing is left, or this is why the bytes are no file
  pub ends_file : {most n left : ℕ} {filled : List ℕ} {later : FeedAt} (cause : Option Cause) (result : Result ℕ FileEnd) → StopsAt window 0 cause → ReadsBehind window now n filled later
      → n ≡ 0 → read ≤ most → left ≡ length filled → MatchOption cause (result ≡ Ok read) (λ fault. result ≡ Err (Malformed (read - left) fault))
      → CollectsFile holds most start old later new result
  ends_file {most} {n} {left} {filled} {later} None result stops reads zero few left_is is =
      let none : window ≡ [] = nil_from_length window (omega (arith, stops)) in
      subst (λ (r : Result ℕ FileEnd). CollectsFile holds most start old later new r) (sym is)
      (bytes, ds, so_far.count, (given_to_end so_far.given reads zero).0, reads.at_end zero, front_file so_far.front none, so_far.front.came)
  ends_file {most} {n} {left} {filled} {later} (Some fault) result stops reads zero few left_is is =
      let same : left ≡ length window = left_is ∙ ap length (given_to_end so_far.given reads zero).1 in
      let at : length bytes - length window ≡ read - left = omega (arith, so_far.count) in
      subst (λ (r : Result ℕ FileEnd). CollectsFile holds most start old later new r) (sym is) (
        bytes,
        omega (arith, so_far.count),
        (given_to_end so_far.given reads zero).0,
        reads.at_end zero,
        subst (λ (k : ℕ). IsBad bytes k fault) at (front_bad so_far.front fault stops.0 stops.1),
        subst (λ (k : ℕ). CollectsTo holds bytes k old new) at (front_until so_far.front),
      )
