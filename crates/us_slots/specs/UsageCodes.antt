-- Interval usage codes (IUC): what the minislots of a MAP element are for. Those that a schedule uses, by their
-- names and numbers in the standard.
use Rattle.std.specs.Prelude.{ℕ, ◌<◌}

-- a code has four bits
abbrev pub IsUsageCode : ℕ → Type 0
IsUsageCode number = number < 16

-- Request: any modem that is addressed may request there
abbrev pub request : ℕ
request = 1

abbrev pub initial_maintenance : ℕ
initial_maintenance = 3

abbrev pub station_maintenance : ℕ
station_maintenance = 4

-- Null: ends the list of elements
abbrev pub null : ℕ
null = 7

-- Advanced PHY Short Data Grant
abbrev pub short_data_grant : ℕ
short_data_grant = 9

-- Advanced PHY Long Data Grant
abbrev pub long_data_grant : ℕ
long_data_grant = 10

-- Advanced PHY Unsolicited Grant
abbrev pub unsolicited_grant : ℕ
unsolicited_grant = 11
