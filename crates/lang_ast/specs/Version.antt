-- The version of what the exported calls answer: one number for the bytes of images and answers and the arguments of the calls.
use Rattle.std.specs.Prelude.{ℕ}

-- document 01 names no version: its own is 1, and each later format of answers has the next number. 2: refusals 10 and 11; 3: sort 7
abbrev pub answers_version : ℕ
answers_version = 3
