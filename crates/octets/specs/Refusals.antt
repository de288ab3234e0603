-- Refusals of the code, and the reports that they are.
use Rattle.std.specs.Prelude.{ℕ, Result, Ok, Err}
use Rattle.certificate.specs.declared.Report.{Report}
use Rattle.certificate.specs.Checks.{report_with, fine}
use Rattle.octets.specs.declared.refusals.Refusal.{Refusal}
use Rattle.octets.specs.declared.refusals.Refusal.TheVariants.{Short, Mark, Header, Link, Turn, Signal, Grid, Arrivals, Names, PullSum, Room, Unsafe, Rank, Unlisted, NotLower, Improper, NoRoom, NoCertificate, NoEntry, BadReading, NoReading, Order, Memory, Goal}
use Rattle.octets.specs.declared.refusals.Refused.{Refused}

-- the number of a refusal
abbrev pub number_of : Refusal → ℕ
number_of Short = 1
number_of Mark = 2
number_of Header = 3
number_of Link = 4
number_of Turn = 5
number_of Signal = 6
number_of Grid = 7
number_of Arrivals = 8
number_of Names = 9
number_of PullSum = 10
number_of Room = 11
number_of Unsafe = 12
number_of Rank = 13
number_of Unlisted = 14
number_of NotLower = 15
number_of Improper = 16
number_of NoRoom = 17
number_of NoCertificate = 18
number_of NoEntry = 19
number_of BadReading = 20
number_of NoReading = 21
number_of Order = 22
number_of Memory = 23
number_of Goal = 24

-- the report that a refusal is
abbrev pub report_of : Refused → Report
report_of e = report_with (number_of e.why) e.a e.b e.count

-- what an outcome tells: success, or the refusal
abbrev pub told : {T : Type 0} → Result T Refused → Report
told (Ok v) = fine
told (Err e) = report_of e

-- the same of an outcome that knows how many successors were looked up
abbrev pub told_after : {T : Type 0} → (T → ℕ) → Result T Refused → Report
told_after count (Ok v) = report_with 0 0 0 (count v)
told_after count (Err e) = report_of e
