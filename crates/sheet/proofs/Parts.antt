-- A PART OF THE STORE AS IT IS LENT.
--   rest_is     the words from some place to the end are those that are left without the ones before
-- Assumes nothing.
use Rattle.std.proofs.Common.{◌≡◌, ℕ, List, ◌-◌, arith, length, take, drop, take_all, length-drop}

pub rest_is : (ws : List ℕ) (a : ℕ) → take (length ws - a) (drop a ws) ≡ drop a ws
rest_is ws a = take_all (length ws - a) (drop a ws) (omega (arith, length-drop a ws))
