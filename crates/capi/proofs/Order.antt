-- THE ORDER OF FIELDS AND PARAMETERS, on which a C program rests: what stands at each place is what the promises call by that name.
--   header_fields, read_fields, write_fields, open_fields, assume_fields, explain_fields   the fields of each struct, first to last
--   Over T                          what can be said of the parameters of a contract, of the answer, and of the parameters as the call leaves them
--   ReadOrder .. ExplainOrder       what an export promises, over its parameters from first to last
--   Promises T c P                  the contract with the clauses c promises P
--   read_order .. explain_order     each export promises that
-- That include/parity.h declares them in this order, and that a compiler passes them in it, is not proved.
-- Assumes nothing.
use mathlib.Core.Path.{◌≡◌, refl}
use base.Logic.{SProp}
use contract.Lifetimes.{Lfts}
use contract.Monad.{Fun}
use contract.Notation.{connectives}
use denote.Triple.Clauses.{Ended, Clauses, AtExit}
use denote.Triple.Entry.{Args, Res}
use prog.Memory.{Memory}
use prog.Routine.{Routine}
use seplogic.Ra.Ura.{Ura}
use types.Logic.{Logic}
use Rattle.judge.specs.declared.Header.{Header}
use Rattle.judge.specs.contracts.Header as header
use Rattle.parity.specs.Promises.{BackPromise}
use Rattle.capi.specs.declared.ReadNumbers.{ReadNumbers}
use Rattle.capi.specs.declared.WriteNumbers.{WriteNumbers}
use Rattle.capi.specs.declared.OpenNumbers.{OpenNumbers}
use Rattle.capi.specs.declared.AssumeNumbers.{AssumeNumbers}
use Rattle.capi.specs.declared.ExplainNumbers.{ExplainNumbers}
use Rattle.capi.specs.contracts.ReadNumbers as reading
use Rattle.capi.specs.contracts.WriteNumbers as writing
use Rattle.capi.specs.contracts.OpenNumbers as opening
use Rattle.capi.specs.contracts.AssumeNumbers as assuming
use Rattle.capi.specs.contracts.ExplainNumbers as explaining
use Rattle.capi.specs.contracts.parity_read as read
use Rattle.capi.specs.contracts.parity_write as write
use Rattle.capi.specs.contracts.parity_open as «open»
use Rattle.capi.specs.contracts.parity_assume as assume
use Rattle.capi.specs.contracts.parity_back as back
use Rattle.capi.specs.contracts.parity_explain as explain
use Rattle.capi.specs.Exports.{ReadExport, WriteExport, OpenExport, AssumeExport, ExplainExport}

-- ---- fields

pub header_fields : (h : Header) → header.struct.as_values h ≡ (h.«open», (h.n, (h.m, (h.kept, (h.depth, tt)))))
header_fields h = refl

pub read_fields : (r : ReadNumbers) → reading.struct.as_values r ≡ (r.number, (r.n, (r.m, tt)))
read_fields r = refl

pub write_fields : (r : WriteNumbers) → writing.struct.as_values r ≡ (r.number, (r.size, tt))
write_fields r = refl

pub open_fields : (r : OpenNumbers) → opening.struct.as_values r ≡ (r.number, (r.count, (r.header, tt)))
open_fields r = refl

pub assume_fields : (r : AssumeNumbers) → assuming.struct.as_values r ≡ (r.number, (r.count, (r.header, tt)))
assume_fields r = refl

pub explain_fields : (r : ExplainNumbers) → explaining.struct.as_values r ≡ (r.number, (r.clause, (r.rows, tt)))
explain_fields r = refl

-- ---- parameters

abbrev Over : Ended → Type 1
Over T = (κs : Lfts T.signature.lifetimes) → Args T.signature κs → Res T.signature κs → AtExit T κs → Type 0

abbrev ReadOrder : Over read.ended
ReadOrder κs (s, (store, end)) r (s', (store', end')) = ReadExport s.now store.now r store'.now

abbrev WriteOrder : Over write.ended
WriteOrder κs (n, (m, (store, (out, end)))) r (n', (m', (store', (out', end')))) = WriteExport n m store.now out.now r out'.now

abbrev OpenOrder : Over «open».ended
OpenOrder κs (old, (s, (store, (work, (literals, (rows, end)))))) r (old', (s', (store', (work', (literals', (rows', end')))))) =
    OpenExport old s.now store.now work.now literals.now rows.now r store'.now work'.now literals'.now rows'.now

abbrev AssumeOrder : Over assume.ended
AssumeOrder κs (h, (work, (literals, (code, end)))) r (h', (work', (literals', (code', end')))) =
    AssumeExport h work.now literals.now code r work'.now literals'.now

abbrev BackOrder : Over back.ended
BackOrder κs (h, (work, (depth, end))) r (h', (work', (depth', end'))) = BackPromise h.now work.now depth r h'.now work'.now

abbrev ExplainOrder : Over explain.ended
ExplainOrder κs (h, (work, (clause, (rows, (v, end))))) r (h', (work', (clause', (rows', (v', end'))))) =
    ExplainExport h work.now clause.now rows.now v r clause'.now rows'.now

module _ {M : Type 1} {𝓤 : Ura M} (𝓛 : Logic 𝓤) (mem : Memory → SProp 𝓤) (run : Routine → Fun 𝓤) where
  open connectives 𝓤 use {⌜◌⌝}

  abbrev Promises : (T : Ended) → Clauses 𝓤 T → Over T → Type 2
  Promises T c P = (κs : Lfts T.signature.lifetimes) (a : Args T.signature κs) (g : (c κs a).ghost) (r : Res T.signature κs) (e : AtExit T κs)
      → (c κs a).ensures g r e ≡ ⌜ P κs a r e ⌝

  pub read_order : Promises read.ended (read.clauses 𝓛 mem run) ReadOrder
  read_order κs a g r e = refl

  pub write_order : Promises write.ended (write.clauses 𝓛 mem run) WriteOrder
  write_order κs a g r e = refl

  pub open_order : Promises «open».ended («open».clauses 𝓛 mem run) OpenOrder
  open_order κs a g r e = refl

  pub assume_order : Promises assume.ended (assume.clauses 𝓛 mem run) AssumeOrder
  assume_order κs a g r e = refl

  pub back_order : Promises back.ended (back.clauses 𝓛 mem run) BackOrder
  back_order κs a g r e = refl

  pub explain_order : Promises explain.ended (explain.clauses 𝓛 mem run) ExplainOrder
  explain_order κs a g r e = refl
