-- Reading a trace: what it answers of the bytes of a source.
use Rattle.std.specs.Prelude.{◌≡◌, ℕ, ◌<◌, ◌≤◌, ◌⊎◌, List, length, Option, Some, None, Result, Ok, Err}
use Rattle.std.specs.List.{AllByRecursion}
use Rattle.std.specs.Global.{Vec}
use Rattle.us_slots.specs.declared.devices.reading.ReadFault.{ReadFault}
use Rattle.us_slots.specs.declared.devices.reading.ReadFault.TheVariants as read_fault
use Rattle.us_flows.specs.Tables.{Tables}
use Rattle.us_requests.specs.declared.faults.TraceFault.{TraceFault}
use Rattle.us_requests.specs.declared.faults.TraceFault.TheVariants as fault
use Rattle.us_requests.specs.Asks.{Request}
use Rattle.us_requests.specs.Traces.{TraceAsks, IsTraceOf, max_asks}
use Rattle.us_requests.specs.Texts.{trace_fault, requests_of}

-- the most bytes of a trace
abbrev pub max_bytes : ℕ
max_bytes = 33554432

-- the bytes of a source are these, where it tells them
abbrev pub TellsOf : Option (List ℕ) → List ℕ → Type 0
TellsOf None text = Unit {0}
TellsOf (Some bytes) text = bytes ≡ text

-- the bytes of a source that are no more than a trace may have
pub record IsTextOf (told : Option (List ℕ)) (text : List ℕ) : Type 0 where
  pub tells : TellsOf told text
  pub short : length text ≤ max_bytes

-- what a read answers, by cases on the answer; of want of memory, and of a source that failed, other clauses say how much
-- was taken
abbrev pub Reads : Tables → ℕ → Option (List ℕ) → Result TraceAsks TraceFault → Type 0
Reads t rounds told (Ok trace) =
    (text : List ℕ) × IsTextOf told text × (trace_fault text ≡ None) × IsTraceOf t rounds (requests_of text) trace
Reads t rounds told (Err fault.TooLarge) =
    (text : List ℕ) × TellsOf told text × ((max_bytes < length text) ⊎ (trace_fault text ≡ Some fault.TooLarge))
Reads t rounds told (Err fault.Read) = Unit {0}
Reads t rounds told (Err fault.NoMemory) = Unit {0}
Reads t rounds told (Err fault) = (text : List ℕ) × IsTextOf told text × (trace_fault text ≡ Some fault)

-- the fault of a trace whose source was not read to its end
abbrev pub of_read_fault : ReadFault → TraceFault
of_read_fault read_fault.TooLarge = fault.TooLarge
of_read_fault read_fault.Failed = fault.Read
of_read_fault read_fault.NoMemory = fault.NoMemory

-- requests of a text without a fault: not too many, and each of a number of units that a request can tell
pub record AreRequests (requests : List Request) : Type 0 where
  pub few : length requests ≤ max_asks
  pub small : AllByRecursion (λ q. q.units ≤ 65535) requests

-- a fault that may be answered where this is the first one of the text
abbrev pub IsFirst : Option TraceFault → TraceFault → Type 0
IsFirst first fault.Read = ⊥
IsFirst first fault.NoMemory = Unit {0}
IsFirst first fault = first ≡ Some fault

-- what is answered of records with this first fault, which tell these requests where there is none
abbrev pub Tells : Option TraceFault → List Request → Result (Vec Request) TraceFault → Type 0
Tells first told (Ok v) = (first ≡ None) × (v.items ≡ told) × AreRequests v.items
Tells first told (Err fault) = IsFirst first fault

-- what a text answers: the trace of its requests, or its first fault, or want of memory
abbrev pub Answers : Tables → ℕ → List ℕ → Result TraceAsks TraceFault → Type 0
Answers t rounds text (Ok trace) = (trace_fault text ≡ None) × IsTraceOf t rounds (requests_of text) trace
Answers t rounds text (Err fault) = IsFirst (trace_fault text) fault
