-- A road network as functions on link and turn numbers, and the network of a certificate.
use Rattle.std.specs.Prelude.{ℕ, List, Bool}
use Rattle.certificate.specs.Octets.{bit_of}
use Rattle.certificate.specs.Loops.{pick}
use Rattle.certificate.specs.Layout.{links_of, turns_of, tail_of, head_of, cap_of, flow_of, start_flow_of, from_of, to_of, share_of, pull_of, green_byte_of, shown_before, mode_of, signal_of}

-- links lead from their tail junction to their head junction; a turn t leads from link `from t` to link `to t`
pub record Network : Type 0 where
  pub links : ℕ
  pub turns : ℕ
  pub tail : ℕ → ℕ
  pub head : ℕ → ℕ
  pub cap : ℕ → ℕ
  pub flow : ℕ → ℕ
  pub from : ℕ → ℕ
  pub to : ℕ → ℕ
  pub share : ℕ → ℕ
  pub pull : ℕ → ℕ

-- the network of a certificate
abbrev pub network_of : List ℕ → Network
network_of s =
    record {
      links = links_of s;
      turns = turns_of s;
      tail = tail_of s;
      head = head_of s;
      cap = cap_of s;
      flow = flow_of s;
      from = from_of s;
      to = to_of s;
      share = share_of s;
      pull = pull_of s;
    }

-- link l is green under signal g
abbrev pub is_green : List ℕ → ℕ → ℕ → Bool
is_green s g l = bit_of (green_byte_of s g) l

-- the most that link l may send in a step under signal g, where signal h was shown before: 0 where it is red; where it is green its flow, and its
-- start flow if it was red (document 02, 5/14). In HD the start flow is the flow, so nothing depends on h.
abbrev pub limit_of : List ℕ → ℕ → ℕ → ℕ → ℕ
limit_of s h g l = pick (is_green s g l) (pick (is_green s h l) (flow_of s l) (start_flow_of s l)) 0

-- the most that each link may send in a step under entry e: its limit under the entry's signal, after the signal that the entry's mode remembers
abbrev pub entry_limit : List ℕ → ℕ → ℕ → ℕ
entry_limit s e = limit_of s (shown_before s (mode_of s e)) (signal_of s e)
