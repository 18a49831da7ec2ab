-- THE EXPORTS: which numbers each answer of the module is given to C as, and what each call with numbers promises.
--   read_numbers, write_numbers, open_numbers, assume_numbers, explain_numbers   the struct that an answer becomes: its number,
--                           its values, and 0 in a field that the number gives no meaning
--   read_n, read_m, write_size   the values of a sheet's answers; those of the other calls are parity's own
--   ReadExport .. r ..      r is the struct of an answer that the module promises, and so are the buffers after the call;
--                           WriteExport, OpenExport, AssumeExport and ExplainExport alike
-- Back answers a plain number: its promise is BackPromise of parity itself.
-- Assumes nothing.
use Rattle.std.specs.Prelude.{◌≡◌, List, ℕ, Result, Ok, Err}
use Rattle.format.specs.Refusals.{answered}
use Rattle.format.specs.declared.Refusal.{Refusal}
use Rattle.cursor.specs.declared.shape.Shape.{Shape}
use Rattle.judge.specs.declared.Header.{Header}
use Rattle.sheet.specs.Reader.{Reads}
use Rattle.sheet.specs.Writer.{Writes}
use Rattle.parity.specs.declared.Opening.{Opening}
use Rattle.parity.specs.declared.Assuming.{Assuming}
use Rattle.parity.specs.declared.Explained.{Explained}
use Rattle.parity.specs.Numbers.{open_number, open_value, assume_number, assume_value, explain_number, explain_codes, explain_rows}
use Rattle.parity.specs.Promises.{OpenPromise, AssumePromise, ExplainPromise}
use Rattle.capi.specs.declared.ReadNumbers.{ReadNumbers}
use Rattle.capi.specs.declared.WriteNumbers.{WriteNumbers}
use Rattle.capi.specs.declared.OpenNumbers.{OpenNumbers}
use Rattle.capi.specs.declared.AssumeNumbers.{AssumeNumbers}
use Rattle.capi.specs.declared.ExplainNumbers.{ExplainNumbers}

-- ---- sheets

-- n and m of a sheet that was read
abbrev pub read_n : Result Shape Refusal → ℕ
read_n (Err r) = 0
read_n (Ok h) = h.n

abbrev pub read_m : Result Shape Refusal → ℕ
read_m (Err r) = 0
read_m (Ok h) = h.m

abbrev pub read_numbers : Result Shape Refusal → ReadNumbers
read_numbers a = record { number = answered a; n = read_n a; m = read_m a }

pub record ReadExport (s old : List ℕ) (r : ReadNumbers) (new : List ℕ) : Type 0 where
  pub answer : Result Shape Refusal
  pub promise : Reads s old answer new
  pub numbers : r ≡ read_numbers answer

-- the bytes of a sheet that was written
abbrev pub write_size : Result ℕ Refusal → ℕ
write_size (Err r) = 0
write_size (Ok size) = size

abbrev pub write_numbers : Result ℕ Refusal → WriteNumbers
write_numbers a = record { number = answered a; size = write_size a }

pub record WriteExport (n m : ℕ) (ws old : List ℕ) (r : WriteNumbers) (new : List ℕ) : Type 0 where
  pub answer : Result ℕ Refusal
  pub promise : Writes n m ws old answer new
  pub numbers : r ≡ write_numbers answer

-- ---- open

abbrev pub open_numbers : Result Opening Refusal → Header → OpenNumbers
open_numbers a h = record { number = open_number a; count = open_value a; header = h }

pub record OpenExport (old : Header) (s store work literals rows : List ℕ) (r : OpenNumbers) (store' work' literals' rows' : List ℕ) : Type 0 where
  pub answer : Result Opening Refusal
  pub after : Header
  pub promise : OpenPromise old s store work literals rows after answer store' work' literals' rows'
  pub numbers : r ≡ open_numbers answer after

-- ---- assume

abbrev pub assume_numbers : Result Assuming Refusal → Header → AssumeNumbers
assume_numbers a h = record { number = assume_number a; count = assume_value a; header = h }

pub record AssumeExport (old : Header) (work literals : List ℕ) (code : ℕ) (r : AssumeNumbers) (work' literals' : List ℕ) : Type 0 where
  pub answer : Result Assuming Refusal
  pub after : Header
  pub promise : AssumePromise old work literals code after answer work' literals'
  pub numbers : r ≡ assume_numbers answer after

-- ---- explain

abbrev pub explain_numbers : Result Explained Refusal → ExplainNumbers
explain_numbers a = record { number = explain_number a; clause = explain_codes a; rows = explain_rows a }

pub record ExplainExport (h : Header) (work clause rows : List ℕ) (v : ℕ) (r : ExplainNumbers) (clause' rows' : List ℕ) : Type 0 where
  pub answer : Result Explained Refusal
  pub promise : ExplainPromise h work clause rows v answer clause' rows'
  pub numbers : r ≡ explain_numbers answer
