-- The limits of a call.
use Rattle.std.specs.Prelude.{◌+◌, ◌≤◌, ⊤, length}
use Rattle.case_input.specs.declared.Call.{Call}
use Rattle.case_input.specs.declared.Call.TheVariants.{Fresh, State, Load, Query, Poll, Write, List, Compare}
use Rattle.case_input.specs.declared.Item.{Item}
use Rattle.case_input.specs.declared.Item.TheVariants.{Case, Call as Calls, End}
use Rattle.case_input.specs.declared.TheConstants.{MOST_BYTES, MOST_QUEUES, MOST_LENT}

-- the bytes and queues of a call are no more than the most, and no buffer is larger than the largest
abbrev pub IsWithinLimits : Call → Type 0
IsWithinLimits Fresh = ⊤
IsWithinLimits (State bytes len mode) = length bytes.now ≤ MOST_BYTES
IsWithinLimits (Load bytes) = length bytes.now ≤ MOST_BYTES
IsWithinLimits (Query scale queues) = length queues.now ≤ MOST_QUEUES
IsWithinLimits (Poll bytes) = length bytes.now ≤ MOST_BYTES
IsWithinLimits (Write size start) = size ≤ MOST_LENT
IsWithinLimits (List bytes) = length bytes.now ≤ MOST_BYTES
IsWithinLimits (Compare first second) = length first.now + length second.now ≤ MOST_BYTES

abbrev pub HasCallWithinLimits : Item → Type 0
HasCallWithinLimits Case = ⊤
HasCallWithinLimits (Calls call) = IsWithinLimits call
HasCallWithinLimits End = ⊤
