-- THE CASES marked M in document 01, as item 2 of document 02 changes them, and those that it brings, in one table; and what it is for one to
-- hold of the definitions.
-- Each case is an update list, as bytes, applied to the empty ledger; prefixes are written as bits.
use Rattle.std.specs.Prelude.{◌≡◌, true, false, cond, List, [], ◌∷◌, ℕ}
use Rattle.std.proofs.Math.Option.{Option, none, some}
use Rattle.theory.specs.Bits.{Bits, bits_of}
use Rattle.theory.specs.Ledger.{Ledger, Entry, ◌via◌, nothing, is_held}
use Rattle.rules.specs.Numbers.{ipv4, width}
use Rattle.rules.specs.Records.{Change, announces, withdraws, print_all}
use Rattle.rules.specs.Plain.{Applied, updated, needs}
use Rattle.rules.specs.Writing.{smallest_table, ForwardsAs}

-- what is to come of a list: its refusal, the count applied, the slots that the ledger then needs, and what is written
pub record Result : Type 0 where
  pub refusal : Option ℕ
  pub count : ℕ
  pub needed : ℕ
  pub output : List Entry

pub record Case : Type 0 where
  pub slots : ℕ
  pub records : List Change
  pub result : Result

-- what the definitions make of a case
abbrev pub after : Case → Applied
after c = updated ipv4 c.slots nothing (print_all ipv4 c.records)

abbrev pub result_of : Applied → Result
result_of a = record {
  refusal = a.refusal;
  count = a.count;
  needed = needs (width ipv4) a.ledger;
  output = smallest_table ipv4 a.ledger;
}

-- and the written table answers lookups as the ledger does
pub record Holds (c : Case) : Type 0 where
  pub answers : result_of (after c) ≡ c.result
  pub lookups : ForwardsAs ipv4 (after c).ledger c.result.output

-- prefixes as document 01 writes them: the empty one, and those of one to three bits
abbrev * : Bits
* = []

abbrev 0* : Bits
0* = false ∷ []

abbrev 1* : Bits
1* = true ∷ []

abbrev 00* : Bits
00* = false ∷ false ∷ []

abbrev 01* : Bits
01* = false ∷ true ∷ []

abbrev 010* : Bits
010* = false ∷ true ∷ false ∷ []

abbrev 011* : Bits
011* = false ∷ true ∷ true ∷ []

abbrev 10* : Bits
10* = true ∷ false ∷ []

abbrev 11* : Bits
11* = true ∷ true ∷ []

-- 10.0.0.0/8 and 255.255.255.255/32
abbrev ten/8 : Bits
ten/8 = bits_of 8 10

abbrev last/32 : Bits
last/32 = bits_of 32 0xffff_ffff

-- a list that is taken whole, and what is then needed and written
abbrev all_taken : ℕ → ℕ → List Change → ℕ → List Entry → Case
all_taken slots n cs needed output =
    record { slots = slots; records = cs; result = record { refusal = none; count = n; needed = needed; output = output } }

-- a list that is refused
abbrev refused_with : ℕ → ℕ → List Change → ℕ → ℕ → List Entry → Case
refused_with slots x cs n needed output =
    record { slots = slots; records = cs; result = record { refusal = some x; count = n; needed = needed; output = output } }

-- A: nothing is held, 0 records are written, and every address is discarded
abbrev pub case_a : Case
case_a = all_taken 64 0 [] 1 []

-- C, in the 6 slots that it needs, and E: the tempting writers are tried on them
abbrev pub table_c : List Entry
table_c = * via 2 ∷ 01* via 1 ∷ 11* via 3 ∷ []

abbrev pub case_c : Case
case_c = all_taken 6 4 (announces * 1 ∷ announces 00* 2 ∷ announces 10* 2 ∷ announces 11* 3 ∷ []) 6 table_c

abbrev pub table_e : List Entry
table_e = * via 1 ∷ 0* via 2 ∷ []

abbrev pub case_e : Case
case_e = all_taken 64 2 (announces * 2 ∷ announces 1* 1 ∷ []) 2 table_e

-- F, and G, which is F with 0* withdrawn: a writer that keeps the sets worked out with 0* is tried on it
abbrev pub table_f : List Entry
table_f = * via 2 ∷ []

abbrev pub case_f : Case
case_f = all_taken 64 3 (announces * 1 ∷ announces 0* 2 ∷ announces 1* 2 ∷ []) 3 table_f

abbrev pub table_g : List Entry
table_g = * via 1 ∷ 1* via 2 ∷ []

abbrev pub case_g : Case
case_g = all_taken 64 4 (announces * 1 ∷ announces 0* 2 ∷ announces 1* 2 ∷ withdraws 0* ∷ []) 2 table_g

-- no default at all: a writer that refuses such ledgers is tried on it
abbrev pub table_half : List Entry
table_half = 0* via 1 ∷ []

abbrev pub case_half : Case
case_half = all_taken 64 1 (announces 0* 1 ∷ []) 2 table_half

-- discard announced below * 1: a writer that takes a held discard for no route at all is tried on it
abbrev pub table_below : List Entry
table_below = 1* via 1 ∷ []

abbrev pub case_below : Case
case_below = all_taken 64 2 (announces * 1 ∷ announces 0* 0 ∷ []) 2 table_below

-- L: hop 256 is taken and written, hop 257 is refused
abbrev pub case_highest : Case
case_highest = all_taken 64 1 (announces * 256 ∷ []) 1 (* via 256 ∷ [])

abbrev pub case_too_high : Case
case_too_high = refused_with 64 7 (announces * 257 ∷ []) 0 1 []

-- hops 1 and 65, which are the same bit of two words: a writer whose sets have one word is tried on it
abbrev pub table_words : List Entry
table_words = * via 1 ∷ 1* via 65 ∷ []

abbrev pub case_words : Case
case_words = all_taken 64 2 (announces 0* 1 ∷ announces 1* 65 ∷ []) 3 table_words

-- C's table whole, byte by byte, and C's routes as they were announced
abbrev pub bytes_c : List ℕ
bytes_c =
    0x00 ∷ 0x00 ∷ 0x00 ∷ 0x00 ∷ 0x00 ∷ 0x01 ∷ 0x00 ∷ 0x02
    ∷ 0x40 ∷ 0x00 ∷ 0x00 ∷ 0x00 ∷ 0x02 ∷ 0x01 ∷ 0x00 ∷ 0x01
    ∷ 0xc0 ∷ 0x00 ∷ 0x00 ∷ 0x00 ∷ 0x02 ∷ 0x01 ∷ 0x00 ∷ 0x03
    ∷ []

abbrev pub copy_of_c : List Entry
copy_of_c = * via 1 ∷ 00* via 2 ∷ 10* via 2 ∷ 11* via 3 ∷ []

-- THE TABLE
abbrev pub cases : List Case
cases =
    case_a
    -- B
    ∷ all_taken 64 1 (announces * 1 ∷ []) 1 (* via 1 ∷ [])
    -- C
    ∷ case_c
    -- D
    ∷ all_taken 64 2 (announces * 1 ∷ announces 1* 2 ∷ []) 2 (* via 1 ∷ 1* via 2 ∷ [])
    -- E
    ∷ case_e
    -- F
    ∷ case_f
    -- G
    ∷ case_g
    -- H
    ∷ all_taken 64 2 (announces * 5 ∷ announces ten/8 5 ∷ []) 9 (* via 5 ∷ [])
    -- I
    ∷ all_taken 64 3 (announces * 1 ∷ announces 01* 2 ∷ announces 10* 3 ∷ []) 5 (* via 1 ∷ 01* via 2 ∷ 10* via 3 ∷ [])
    -- J in 33 slots, and in 32
    ∷ all_taken 33 2 (announces * 1 ∷ announces last/32 2 ∷ []) 33 (* via 1 ∷ last/32 via 2 ∷ [])
    ∷ refused_with 32 9 (announces * 1 ∷ announces last/32 2 ∷ []) 1 1 (* via 1 ∷ [])
    -- K
    ∷ refused_with 64 8 (withdraws * ∷ []) 0 1 []
    -- no default at all, and one that goes
    ∷ case_half
    ∷ all_taken 64 3 (announces * 1 ∷ announces 0* 2 ∷ withdraws * ∷ []) 2 (0* via 2 ∷ [])
    -- 0* 1 and 1* 2 with none above: a route of length 0 is written though none is held
    ∷ all_taken 64 2 (announces 0* 1 ∷ announces 1* 2 ∷ []) 3 (* via 1 ∷ 1* via 2 ∷ [])
    -- document 001's example: a discard is written though none is announced
    ∷ all_taken 64 3 (announces 00* 1 ∷ announces 010* 1 ∷ announces 1* 1 ∷ []) 6 (* via 1 ∷ 011* via 0 ∷ [])
    -- discard announced below another route: it hides that route, and is left to what is in force above, or written
    ∷ case_below
    ∷ all_taken 64 2 (announces * 1 ∷ announces 01* 0 ∷ []) 3 (* via 1 ∷ 01* via 0 ∷ [])
    -- discard announced above another route, and alone: it is held and needs its slots, and is not written
    ∷ all_taken 64 2 (announces * 0 ∷ announces 1* 1 ∷ []) 2 (1* via 1 ∷ [])
    ∷ all_taken 64 1 (announces 0* 0 ∷ []) 2 []
    ∷ refused_with 1 9 (announces 0* 0 ∷ []) 0 1 []
    -- and as it is held, it can be withdrawn, once
    ∷ refused_with 64 8 (announces 0* 0 ∷ withdraws 0* ∷ withdraws 0* ∷ []) 2 1 []
    -- L
    ∷ case_highest
    ∷ case_too_high
    -- two words of a set
    ∷ case_words
    -- E with the last hop of the last word and the first of another: the least is written
    ∷ all_taken 64 2 (announces * 256 ∷ announces 1* 65 ∷ []) 2 (* via 65 ∷ 0* via 256 ∷ [])
    ∷ []

-- tempting and wrong: forgetting the entries for strings that were never held
abbrev pub held_only : Ledger ℕ → List Entry → List Entry
held_only L [] = []
held_only L (s via h ∷ es) = cond (is_held (L s)) (s via h ∷ held_only L es) (held_only L es)
