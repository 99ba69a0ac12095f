-- What the replies are.
use Rattle.std.specs.Option.{option_map_or}
use Rattle.std.proofs.Common.{◌≢◌, ℕ, Bool, true, false, Option, Some, None, List, cond}
use Rattle.seat_history.specs.Contents.{Contents}
use Rattle.seat_history.specs.Key.{key_number}
use Rattle.seat_history.specs.Step.{reply_to, replace_reply, is_same}
use Rattle.seat_history.specs.declared.call.Call.{Call}
use Rattle.seat_history.specs.declared.call.Call.TheVariants.{Load, Store, Swap, Hold, Look, Release, Find, Insert, Replace, Remove}
use Rattle.seat_history.specs.declared.reply.Reply.{Reply}
use Rattle.seat_history.specs.declared.reply.Reply.TheVariants.{Done, Yes, No, Absent, Val, Present, Found, Gone, Full}

of_two : (b : Bool) (x y z : Reply) → x ≢ z → y ≢ z → cond b x y ≢ z
of_two true x y z p q = p
of_two false x y z p q = q

of_there : (o : Option (List ℕ)) (f : List ℕ → Reply) (y z : Reply) → ((v : List ℕ) → f v ≢ z) → y ≢ z → option_map_or f o y ≢ z
of_there None f y z p q = q
of_there (Some v) f y z p q = p v

replace_not_full : (o : Option (List ℕ)) (old : List ℕ) (need free : ℕ) → replace_reply o old ≢ Full need free
replace_not_full None old need free = λ h. cc
replace_not_full (Some v) old need free = of_two (is_same v old) Yes (Found v) (Full need free) (λ h. cc) (λ h. cc)

pub reply_not_full : (c : Contents) (held : Option (List ℕ)) (call : Call) (need free : ℕ) → reply_to c held call ≢ Full need free
reply_not_full c held (Load reg) need free = λ h. cc
reply_not_full c held (Store reg new) need free = λ h. cc
reply_not_full c held (Swap reg old new) need free = of_two (is_same (c.registers reg) old) Yes No (Full need free) (λ h. cc) (λ h. cc)
reply_not_full c held (Hold reg) need free = λ h. cc
reply_not_full c held Look need free = λ h. cc
reply_not_full c held Release need free = λ h. cc
reply_not_full c held (Find key) need free = of_there (c.values (key_number key)) Val Absent (Full need free) (λ v h. cc) (λ h. cc)
reply_not_full c held (Insert key val) need free = of_there (c.values (key_number key)) Present Done (Full need free) (λ v h. cc) (λ h. cc)
reply_not_full c held (Replace key old new) need free = replace_not_full (c.values (key_number key)) old need free
reply_not_full c held (Remove key) need free = of_there (c.values (key_number key)) Gone Absent (Full need free) (λ v h. cc) (λ h. cc)
