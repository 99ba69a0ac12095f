-- The report as text: lines of words, with one space between any two words and a line feed after each line.
use Rattle.std.specs.Prelude.{ℕ, ◌/◌, ◌%◌, ◌^◌, List, [], ◌∷◌, ◌++◌, codes, decimal, length}
use Rattle.std.specs.List.{flat_map, join_with_byte}
use Rattle.flow_fold.specs.Flows.{Flows}
use Rattle.flow_fold.specs.declared.key.Key.{Key}
use Rattle.flow_fold.specs.declared.value.Value.{Value}
use Rattle.netflow_five.specs.declared.engine_line.EngineLine.{EngineLine}
use Rattle.flow_report.specs.Sums.{packets_of, octets_of}
use Rattle.flow_report.specs.declared.totals.Totals.{Totals}

-- the byte between words
abbrev pub space : ℕ
space = 32

-- the byte between the numbers of an address
abbrev pub dot : ℕ
dot = 46

-- the byte at a line's end
abbrev pub line_feed : ℕ
line_feed = 10

-- a number and the byte after it
abbrev pub number_then : ℕ → ℕ → List ℕ
number_then after number = decimal number ++ after ∷ []

-- words with one space between any two, and the byte after them
unfoldable pub words_then : ℕ → List (List ℕ) → List ℕ
words_then after words = join_with_byte space words ++ after ∷ []

-- the four bytes of an address as decimal numbers joined by dots, the most significant first
unfoldable pub dotted : ℕ → List ℕ
dotted address = join_with_byte dot (
    decimal (address / 2 ^ 24) ∷ decimal (address / 2 ^ 16 % 2 ^ 8) ∷ decimal (address / 2 ^ 8 % 2 ^ 8) ∷ decimal (address % 2 ^ 8) ∷ [])

-- an address and the space after it
unfoldable pub address_text : ℕ → List ℕ
address_text address = dotted address ++ space ∷ []

-- source and destination address, source and destination port, protocol, type of service, input interface
unfoldable pub key_text : Key → List ℕ
key_text key = words_then space (
    dotted (key.k0 / 2 ^ 32) ∷ dotted (key.k0 % 2 ^ 32)
    ∷ decimal (key.k1 / 2 ^ 48) ∷ decimal (key.k1 / 2 ^ 32 % 2 ^ 16)
    ∷ decimal (key.k1 / 2 ^ 24 % 2 ^ 8) ∷ decimal (key.k1 / 2 ^ 16 % 2 ^ 8) ∷ decimal (key.k1 % 2 ^ 16) ∷ [])

-- packets, octets, first, last, flags
unfoldable pub value_text : Value → List ℕ
value_text value = words_then line_feed (
    decimal value.packets ∷ decimal value.octets ∷ decimal value.first ∷ decimal value.last ∷ decimal value.flags ∷ [])

-- the line of a flow
unfoldable pub flow_line : Key × Value → List ℕ
flow_line flow = key_text flow.0 ++ value_text flow.1

-- a word and a number
unfoldable pub named : List ℕ → ℕ → List ℕ
named word number = word ++ space ∷ decimal number

-- a word, a number and the byte after them
unfoldable pub named_then : ℕ → List ℕ → ℕ → List ℕ
named_then after word number = named word number ++ after ∷ []

-- the line of an engine: type and id, how many of its flows came, how many were lost, how often its numbers went back
unfoldable pub engine_text : EngineLine → List ℕ
engine_text line = words_then line_feed (
    named (codes "engine") line.engine_type ∷ decimal line.engine_id
    ∷ named (codes "flows") line.flows ∷ named (codes "lost") line.lost ∷ named (codes "resets") line.resets ∷ [])

-- the first half of the last line: how many flows there are, and their packets and octets together
unfoldable pub sums_text : ℕ → ℕ → ℕ → List ℕ
sums_text flows packets octets = words_then space (named (codes "flows") flows ∷ named (codes "packets") packets ∷ named (codes "octets") octets ∷ [])

-- the second half of the last line: how much was read
unfoldable pub totals_text : Totals → List ℕ
totals_text totals = words_then line_feed (named (codes "records") totals.records ∷ named (codes "datagrams") totals.datagrams ∷ [])

-- the last line
unfoldable pub last_line : ℕ → ℕ → ℕ → Totals → List ℕ
last_line flows packets octets totals = sums_text flows packets octets ++ totals_text totals

-- the last line of a report of these flows
abbrev pub last_line_of : Flows → Totals → List ℕ
last_line_of flows totals = last_line (length flows) (packets_of flows) (octets_of flows) totals

-- a line for each flow, a line for each engine, and the last line
unfoldable pub report_text : Flows → List EngineLine → Totals → List ℕ
report_text flows engines totals = flat_map flow_line flows ++ (flat_map engine_text engines ++ last_line_of flows totals)
