mod AfterLines
