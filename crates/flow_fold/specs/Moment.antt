-- The times of a record as moments since 1970, by the clock of its datagram's header.
use Rattle.std.specs.Prelude.{ℕ, ◌+◌, ◌-◌, ◌*◌, ◌/◌, ◌%◌, ◌^◌}
use Rattle.netflow_five.specs.declared.header.Header.{Header}

-- the milliseconds from 1970 to when the header was made
abbrev pub made_at : Header → ℕ
made_at header = 1000 * header.unix_secs + header.unix_nsecs / 1000000

-- the milliseconds of uptime from a time to when the header was made; uptimes are counted modulo 2^32
abbrev pub time_since : Header → ℕ → ℕ
time_since header time = (header.sys_uptime + 2 ^ 32 - time) % 2 ^ 32

-- the milliseconds from 1970 to a time of the exporter's uptime: that long before the header was made, and 0 where that was before 1970
-- (a natural number less a greater one is 0)
abbrev pub moment : Header → ℕ → ℕ
moment header time = made_at header - time_since header time
