use Rattle.std.proofs.Common.{refl, sym, ap, ◌∙◌, rules}
use Rattle.rows.specs.Decode.{instruction_at, talk_at}
use Rattle.rows.proofs.Talks.{talk_found}
use Rattle.records.specs.Records.{record_at}
use Rattle.records.proofs.RecordLaws.{kept_set, kept_room}
use Rattle.rows.specs.declared.decode.Instruction.TheVariants.{Take}
use Rattle.turns.proofs.MeetingLaws.{gave, giving, unmet, none_first, take_other}
use Rattle.turns.proofs.meeting.take_from.Goals as goal

pub returns-in_default : goal.returns-in_default
returns-in_default c m =
    unmet c.args.rows.now.words.now m c.args.processes.now _ c.args.j c.args.i refl
    (take_other c.args.rows.now.words.now (record_at c.args.processes.now c.args.j).place (record_at c.args.processes.now c.args.i).place
    c.args.conversation c.args.variable c.args.next c.in_default.field-0 c.requires.doing.is ((talk_found c.args.rows.now.words.now c.place.result c.in_default.field-0 (sym c.in_default.is ∙ c.talk_at.ensures.is)) ∙ ap (instruction_at c.args.rows.now.words.now) c.place.ensures.place) (λ d v e. search rules))

pub returns-in_default-2 : goal.returns-in_default-2
returns-in_default-2 c m =
    unmet c.args.rows.now.words.now m c.args.processes.now _ c.args.j c.args.i refl
    (none_first c.args.rows.now.words.now (record_at c.args.processes.now c.args.j).place (record_at c.args.processes.now c.args.i).place
    (sym c.in_default.is ∙ (c.talk_at.ensures.is ∙ ap (talk_at c.args.rows.now.words.now) c.place.ensures.place)))

pub returns : goal.returns
returns c m =
    let k1 = kept_set c.args.processes.now c.args.i c.set_variable.new.process _ c.requires.first c.set_variable.ensures in
    let k2 = kept_set _ c.args.i c.set_place.new.process _ (kept_room k1 c.args.i c.requires.first) c.set_place.ensures in
    let k3 = kept_set _ c.args.j c.set_place-2.new.process _ (kept_room k2 c.args.j (kept_room k1 c.args.j c.requires.second)) c.set_place-2.ensures in
    gave c.args.rows.now.words.now m c.args.processes.now _ _ _ c.args.j c.args.i
    c.in-Some-Give.value (record_at c.args.processes.now c.args.i).place c.args.conversation c.args.variable c.args.next (Take c.args.conversation c.args.variable c.args.next) c.variables.result.now c.evaluate-given.result
    (giving c.args.rows.now.words.now c.place.result (record_at c.args.processes.now c.args.j).place _ c.in-Some-Give.value c.in-Some-Give.field-0 c.place.ensures.place (talk_found c.args.rows.now.words.now c.place.result c.in-Some-Give.field-0 c.in-Some-Give.ensures.is) c.in-Some-Give.field-0-is c.in-Some-Give.ensures.words)
    refl c.requires.doing.is refl c.requires.doing.words c.variables.ensures c.evaluate-given.ensures.value
    k1 k2 k3
